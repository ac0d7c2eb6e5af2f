-- The map in which numbers used twice are found.
use Rattle.std.specs.Prelude.{ℕ, ◌/◌, ◌<◌, ◌≡◌, List, length, replicate}

-- so many words, with none of the numbers in them: 64 to a word
unfoldable pub no_numbers : ℕ → List ℕ
no_numbers words = replicate words 0

-- a map that has none yet, and a place for every number issued
pub record FreshMap (issued : ℕ) (map : List ℕ) : Type 0 where
  pub empty : map ≡ no_numbers (length map)
  pub wide : issued / 64 < length map
