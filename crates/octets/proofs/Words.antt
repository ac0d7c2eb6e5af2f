-- A number's eight bytes as std reads and writes them. Assumes nothing.
use Prim.Native.Nat.{ℕ, zero, suc, ◌+◌, ◌*◌, ◌/◌, ◌^◌, ◌<◌}
use mathlib.Core.Path.{◌≡◌, refl, sym, ◌∙◌}
use mathlib.Core.List.{List, [], ◌∷◌}
use native.Mathlib.Omega.{arith}
use lib.ListN.{length, get_or, drop, drop_of_length-le}
use Rattle.std.specs.Int.{w64, from_le_bytes, to_le_bytes}
use Rattle.std.proofs.lemmas.Nat.{le_bytes_8}
use Rattle.octets.specs.Numbers.{AllBytes, worth, digits}
use Rattle.octets.proofs.Digits.{length_digits, worth_digits}

-- the byte at a place, and what those behind it are worth
worth_at : (bs : List ℕ) (i : ℕ) → worth (drop i bs) ≡ get_or bs i 0 + 256 * worth (drop (suc i) bs)
unfolding worth
worth_at [] zero = omega arith
worth_at [] (suc i) = omega arith
worth_at (b ∷ bs) zero = refl
worth_at (b ∷ bs) (suc i) = worth_at bs i

none_behind : (bs : List ℕ) → length bs ≡ 8 → worth (drop 8 bs) ≡ 0
unfolding worth
none_behind bs h = rw (drop_of_length-le bs {i = 8} (omega arith))

pub word_worth : (bs : List ℕ) → length bs ≡ 8 → from_le_bytes w64 bs ≡ worth bs
word_worth bs h =
    omega (
      arith,
      worth_at bs 0,
      worth_at bs 1,
      worth_at bs 2,
      worth_at bs 3,
      worth_at bs 4,
      worth_at bs 5,
      worth_at bs 6,
      worth_at bs 7,
      none_behind bs h,
    )

pub bytes_digits : (n x : ℕ) → AllBytes (digits n x)
unfolding digits
bytes_digits zero x i = omega arith
bytes_digits (suc n) x zero = omega arith
bytes_digits (suc n) x (suc i) = bytes_digits n (x / 256) i

pub word_digits : (x : ℕ) → x < 2 ^ 64 → to_le_bytes w64 x ≡ digits 8 x
word_digits x h =
    let long : length (digits 8 x) ≡ 8 = length_digits 8 x in
    let same : x ≡ from_le_bytes w64 (digits 8 x) = sym (word_worth (digits 8 x) long ∙ worth_digits 8 x (omega arith)) in
    le_bytes_8 (digits 8 x) x long (bytes_digits 8 x) same
