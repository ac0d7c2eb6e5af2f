-- A number as bytes, and the way back from either. Assumes nothing.
use Prim.Native.Nat.{ℕ, zero, suc, ◌+◌, ◌*◌, ◌/◌, ◌%◌, ◌^◌, ◌≤◌, ◌<◌}
use mathlib.Core.Path.{◌≡◌, refl, ap, ◌∙◌}
use mathlib.Core.List.{List, [], ◌∷◌}
use native.Mathlib.Omega.{arith}
use native.Mathlib.Nat.{div-add-mod, mod-eq_of_lt, div-eq_of_lt, div-lt_iff_lt-mul, add-mul-div_left, add-mul-mod_self_left, pow-suc, zero-add}
use lib.Dec.{lit<}
use lib.ListN.{length, take, drop}
use lib.Seq.{get_or-drop}
use Rattle.octets.specs.Numbers.{AllBytes, worth, digits}

pub length_digits : (n x : ℕ) → length (digits n x) ≡ n
unfolding digits
length_digits zero x = refl
length_digits (suc n) x = ap suc (length_digits n (x / 256))

-- a number that fits its bytes is what they are worth
pub worth_digits : (n x : ℕ) → x < 256 ^ n → worth (digits n x) ≡ x
unfolding worth digits
worth_digits zero x h = omega arith
worth_digits (suc n) x h =
    let f : x / 256 < 256 ^ n = (div-lt_iff_lt-mul (lit< tt)).1 (rw pow-suc at h) in
    let e : 256 * (x / 256) + x % 256 ≡ x = div-add-mod x 256 in
    rw (worth_digits n (x / 256) f) (omega arith)

-- bytes are the digits of what they are worth
pub digits_worth : (b : List ℕ) → AllBytes b → digits (length b) (worth b) ≡ b
unfolding worth digits
digits_worth [] h = refl
digits_worth (x ∷ b) h =
    let l : x < 256 = h 0 in
    let m : (x + 256 * worth b) % 256 ≡ x = add-mul-mod_self_left x 256 (worth b) ∙ mod-eq_of_lt l in
    let d : (x + 256 * worth b) / 256 ≡ worth b =
    add-mul-div_left x (worth b) (lit< tt) ∙ rw (div-eq_of_lt l, zero-add) in
    rw (m, d, digits_worth b (λ i. h (suc i)))

-- ---- parts of bytes

-- what a few bytes are worth is small

power : (n : ℕ) → 1 ≤ 256 ^ n
power zero = omega arith
power (suc n) = let p = power n in omega (arith, p)

pub few_bytes : (n : ℕ) (b : List ℕ) → length b ≤ n → AllBytes b → worth b < 256 ^ n
unfolding worth
few_bytes n [] h s = power n
few_bytes zero (x ∷ b) h s = absurd (omega (arith, h))
few_bytes (suc n) (x ∷ b) h s =
    let w : worth b < 256 ^ n = few_bytes n b (omega (arith, h)) (λ i. s (suc i)) in
    let x_byte : x < 256 = s 0 in
    omega (arith, w, x_byte)

pub bytes_take : (n : ℕ) (b : List ℕ) → AllBytes b → AllBytes (take n b)
bytes_take zero b h i = omega arith
bytes_take (suc n) [] h i = omega arith
bytes_take (suc n) (x ∷ b) h zero = h 0
bytes_take (suc n) (x ∷ b) h (suc i) = bytes_take n b (λ j. h (suc j)) i

pub bytes_drop : (n : ℕ) (b : List ℕ) → AllBytes b → AllBytes (drop n b)
bytes_drop n b h i = rw get_or-drop (h (n + i))
