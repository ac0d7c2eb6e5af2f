-- How far a chunk is answered, and the replies put so far.
use Rattle.std.specs.Prelude.{ℕ, ◌≤◌, ◌<◌, ◌≡◌, Bool, true, false, List, [], ◌++◌, length, take, drop}
use Rattle.model.specs.Lines.{lines_of}
use Rattle.printing.specs.Printing.{Wrote}
use Rattle.text.specs.Readers.{asks_of}
use Rattle.text.specs.Chunks.{tail_of, tail_long}
use Rattle.text.specs.Answers.{Program, replies_to, state_after}

-- the state, the place of the next line, and whether that line began before the chunk and is too long
pub record Point (S : Type 0) : Type 0 where
  pub state : S
  pub at : ℕ
  pub long : Bool

module _ {A S : Type 0} (P : Program A S) (chunk : List ℕ) where
  -- what the chunk asks for from a point on
  abbrev pub asks_from : Point S → List A
  asks_from p = asks_of P.reader p.long (lines_of (drop p.at chunk))

  -- from point to point: what is asked for between them makes the one state of the other, and the chunk's tail and whether that is too
  -- long are the same from both
  pub record Onward (p q : Point S) : Type 0 where
    pub passed : List A
    pub inside : q.at ≤ length chunk
    pub asks : asks_from p ≡ passed ++ asks_from q
    pub state : q.state ≡ state_after P passed p.state
    pub tail : tail_of (lines_of (drop p.at chunk)) ≡ tail_of (lines_of (drop q.at chunk))
    pub still : tail_long p.long (lines_of (drop p.at chunk)) ≡ tail_long q.long (lines_of (drop q.at chunk))

  -- and a text is the replies to what is asked for between them
  pub record Answers (p : Point S) (text : List ℕ) (q : Point S) : Type 0 where
    pub onward : Onward p q
    pub replies : text ≡ replies_to P onward.passed p.state

  -- no line is left at a point: from there on the chunk is its tail
  pub record Through (p : Point S) : Type 0 where
    pub asks : asks_from p ≡ []
    pub tail : tail_of (lines_of (drop p.at chunk)) ≡ drop p.at chunk
    pub still : tail_long p.long (lines_of (drop p.at chunk)) ≡ p.long

  -- what is put at the front of the output answers the chunk from a point up to a further one: to its end where that is marked, else
  -- past a line at least
  pub record Serves (p : Point S) (before after : List ℕ) (next : ℕ) (done : Bool) (q : Point S) : Type 0 where
    pub text : Wrote before 0 (take next after) after next
    pub answers : Answers p (take next after) q
    pub all : done ≡ true → Through q
    pub some : done ≡ false → p.at < q.at
