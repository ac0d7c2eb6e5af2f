-- The bits of a word, counted from the least one on.
use Rattle.std.specs.Prelude.{ℕ, ◌/◌, ◌%◌, ◌^◌, Bool, eqb}
use Rattle.std.specs.Int.Bits.{bit_or}

unfoldable pub bit : ℕ → ℕ → Bool
bit w k = eqb (w / 2 ^ k % 2) 1

-- the word with bit k set
unfoldable pub with_bit : ℕ → ℕ → ℕ
with_bit w k = bit_or w (2 ^ k)
