-- A text put into a lent buffer: one promise for every function that prints.
use Rattle.std.specs.Prelude.{ℕ, ◌+◌, ◌≡◌, List, length}
use Rattle.std.proofs.lemmas.List.Edits.{sets}

-- the buffer afterwards, and the place after the text
pub record Wrote (before : List ℕ) (at : ℕ) (text after : List ℕ) (next : ℕ) : Type 0 where
  pub place : next ≡ at + length text
  pub bytes : after ≡ sets before at text
