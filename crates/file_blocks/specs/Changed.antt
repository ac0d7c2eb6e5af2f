-- Another value of one byte.
use Rattle.std.specs.Prelude.{ℕ, ◌<◌, ◌≡◌, List, length, get_or}

pub record Another (b : List ℕ) (i v : ℕ) : Type 0 where
  pub inside : i < length b
  pub old : get_or b i 0 < 256
  pub new : v < 256
  pub other : v ≡ get_or b i 0 → ⊥
