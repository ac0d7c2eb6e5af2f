-- A program that answers line by line, whatever its lines ask for and whatever it keeps from line to line: its answers one after the
-- other, and its session answered chunk by chunk.
use Rattle.std.specs.Prelude.{ℕ, Bool, List, [], ◌∷◌, ◌++◌, take, if◌then◌else◌}
use Rattle.std.proofs.Math.Option.{Option}
use Rattle.model.specs.declared.Command.{Command}
use Rattle.model.specs.Lines.{lines_of}
use Rattle.model.specs.Session.{Desk, answer}
use Rattle.text.specs.declared.Carry.{Carry}
use Rattle.text.specs.Readers.{Reader, asks_of, commands}
use Rattle.text.specs.Chunks.{carry_of, is_left, tail_of, tail_long}

-- what is asked for is answered with a text, and leaves a state
pub record Program (A S : Type 0) : Type 0 where
  pub reader : Reader A
  pub text : A → S → List ℕ
  pub next : A → S → S

-- ./run
abbrev pub rehearsal : Program Command (Option Desk)
rehearsal = record { reader = commands; text = λ c desk. (answer c desk).text; next = λ c desk. (answer c desk).desk }

-- ---- chunk by chunk

-- the carry after a chunk
unfoldable pub carry_after : Bool → List ℕ → Carry
carry_after long chunk = carry_of (tail_long long (lines_of chunk)) (tail_of (lines_of chunk))

-- the bytes that it keeps
unfoldable pub kept_after : Bool → List ℕ → List ℕ
kept_after long chunk = take (carry_after long chunk).kept (tail_of (lines_of chunk))

module _ {A S : Type 0} (P : Program A S) where
  unfoldable pub replies_to : List A → S → List ℕ
  replies_to [] s = []
  replies_to (a ∷ xs) s = P.text a s ++ replies_to xs (P.next a s)

  unfoldable pub state_after : List A → S → S
  state_after [] s = s
  state_after (a ∷ xs) s = state_after xs (P.next a s)

  -- each chunk is read after what was kept; at the end an unended line is one refusal
  unfoldable pub chunkwise : Carry → List ℕ → S → List (List ℕ) → List ℕ
  chunkwise c kept s [] = replies_to (if is_left c then P.reader.malformed ∷ [] else []) s
  chunkwise c kept s (b ∷ bs) =
      let xs : List A = asks_of P.reader c.long (lines_of (kept ++ b)) in
      replies_to xs s
      ++ chunkwise (carry_after c.long (kept ++ b)) (kept_after c.long (kept ++ b)) (state_after xs s) bs
