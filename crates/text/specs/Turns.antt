-- A program from chunk to chunk: what goes on by the definitions, and that its memory holds just that.
use Rattle.std.specs.Prelude.{ℕ, ◌≡◌, Bool, false, List, [], ◌∷◌, ◌++◌, take}
use Rattle.model.specs.Lines.{lines_of}
use Rattle.text.specs.declared.Carry.{Carry}
use Rattle.text.specs.Readers.{asks_of}
use Rattle.text.specs.Answers.{Program, state_after, carry_after, kept_after}

-- ---- by the definitions

-- what goes from chunk to chunk: the carry, the bytes that it keeps, and the state
pub record Between (S : Type 0) : Type 0 where
  pub carry : Carry
  pub kept : List ℕ
  pub state : S

-- before anything is read: no line has begun
unfoldable pub outset : {S : Type 0} → S → Between S
outset s = record { carry = record { kept = 0; long = false }; kept = []; state = s }

-- the program's memory holds what goes on: the carry, the buffer that the kept bytes stand in, and the state
pub record Holds {S : Type 0} (b : Between S) (c : Carry) (buf : List ℕ) (s : S) : Type 0 where
  pub carry : c ≡ b.carry
  pub kept : take c.kept buf ≡ b.kept
  pub state : s ≡ b.state

module _ {A S : Type 0} (P : Program A S) where
  -- after one chunk more, which is read after what was kept
  unfoldable pub after_chunk : Between S → List ℕ → Between S
  after_chunk b chunk =
      record {
        carry = carry_after b.carry.long (b.kept ++ chunk);
        kept = kept_after b.carry.long (b.kept ++ chunk);
        state = state_after P (asks_of P.reader b.carry.long (lines_of (b.kept ++ chunk))) b.state;
      }

  unfoldable pub after_chunks : Between S → List (List ℕ) → Between S
  after_chunks b [] = b
  after_chunks b (chunk ∷ chunks) = after_chunks (after_chunk b chunk) chunks

  -- ---- in memory

  -- it holds what some chunks have made of the outset
  pub record Reached (first : S) (c : Carry) (buf : List ℕ) (s : S) : Type 0 where
    pub chunks : List (List ℕ)
    pub holds : Holds (after_chunks (outset first) chunks) c buf s

  -- one turn: whatever the memory held, it holds what one chunk more makes of it
  pub record Turned (c : Carry) (buf : List ℕ) (s : S) (c' : Carry) (buf' : List ℕ) (s' : S) : Type 0 where
    pub chunk : List ℕ
    pub holds : (b : Between S) → Holds b c buf s → Holds (after_chunk b chunk) c' buf' s'

  -- ---- the parts of a turn

  -- the state after the lines that end in the chunk, the carry, and the bytes that it keeps at the buffer's front
  pub record Steps (chunk : List ℕ) (long : Bool) (old : S) (c : Carry) (buf : List ℕ) (s : S) : Type 0 where
    pub state : s ≡ state_after P (asks_of P.reader long (lines_of chunk)) old
    pub carry : c ≡ carry_after long chunk
    pub kept : take c.kept buf ≡ kept_after long chunk
