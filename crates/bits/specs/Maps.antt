-- A map of bits over a list of words: bit n % 64 of word n / 64 says whether n is in it. Past the end there is nothing.
use Rattle.std.specs.Prelude.{ℕ, ◌/◌, ◌%◌, Bool, List, get_or, set}
use Rattle.bits.specs.Words.{bit, with_bit}

unfoldable pub has_bit : List ℕ → ℕ → Bool
has_bit map n = bit (get_or map (n / 64) 0) (n % 64)

-- the map with n in it
unfoldable pub marked : List ℕ → ℕ → List ℕ
marked map n = set map (n / 64) (with_bit (get_or map (n / 64) 0) (n % 64))
