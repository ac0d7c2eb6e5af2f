-- The converter from chunk to chunk: what is remembered of the line that has not ended.
use Rattle.std.specs.Prelude.{ℕ, ◌≡◌, List, [], ◌∷◌}
use Rattle.convert.specs.declared.Pending.{Pending}
use Rattle.convert.specs.Chunkwise.{line_after, remembered}
use Rattle.convert.specs.Promises.{text_of}

-- by the definitions, after some chunks
unfoldable pub after_chunks : List ℕ → List (List ℕ) → List ℕ
after_chunks line [] = line
after_chunks line (b ∷ bs) = after_chunks (remembered (line_after line b)) bs

-- in memory: what some chunks have left, of no line at all to begin with
pub record Reached (line : Pending) : Type 0 where
  pub chunks : List (List ℕ)
  pub text : text_of line ≡ after_chunks [] chunks

-- one turn: what one chunk more leaves
pub record Turned (line r : Pending) : Type 0 where
  pub chunk : List ℕ
  pub text : text_of r ≡ remembered (line_after (text_of line) chunk)
