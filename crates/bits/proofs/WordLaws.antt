-- The bits of a word: of 0, of a power of two, of two words or'ed, and of half a word. Assumes nothing.
use Prim.Native.Nat.{ℕ, zero, suc, ◌+◌, ◌*◌, ◌/◌, ◌%◌, ◌^◌, ◌<◌, max}
use mathlib.Core.Path.{◌≡◌, refl, sym, ap, ◌∙◌}
use mathlib.Core.Bool.{Bool, false, ◌||◌}
use native.Mathlib.Omega.{arith}
use lib.Dec.{eqb, eqb-zero-suc, eqb-suc-zero, eqb-suc-suc}
use lib.Arith.{digits_mod}
use lib.Pow.{shr-shr, shl_exact}
use lib.Bits.{bit_or, or_step, or_shr, shifted_half, shifted_even}
use Rattle.bits.specs.Words.{bit, with_bit}

-- the other bits of a word are those of its half
pub bit_half : (w k : ℕ) → bit w (suc k) ≡ bit (w / 2) k
unfolding bit
bit_half w k =
    let e : 1 + k ≡ suc k = omega arith in
    ap (λ (n : ℕ). eqb (w / 2 ^ n % 2) 1) (sym e) ∙ ap (λ (x : ℕ). eqb (x % 2) 1) (sym (shr-shr w 1 k))

pub bit_lowest : (w : ℕ) → bit w 0 ≡ eqb (w % 2) 1
unfolding bit
bit_lowest w = let e : w / 2 ^ 0 ≡ w = omega arith in ap (λ (x : ℕ). eqb (x % 2) 1) e

pub bit_zero : (k : ℕ) → bit 0 k ≡ false
unfolding bit
bit_zero zero = refl
bit_zero (suc k) = bit_half 0 k ∙ bit_zero k

-- ---- a power of two has one bit

half_power : (k : ℕ) → 2 ^ suc k / 2 ≡ 2 ^ k
half_power k =
    let e : 1 * 2 ^ suc k ≡ 2 ^ suc k = omega arith in
    let f : 1 * 2 ^ k ≡ 2 ^ k = omega arith in
    ap (λ (x : ℕ). x / 2) (sym e) ∙ shifted_half 1 k ∙ f

even_power : (k : ℕ) → 2 ^ suc k % 2 ≡ 0
even_power k =
    let e : 1 * 2 ^ suc k ≡ 2 ^ suc k = omega arith in
    ap (λ (x : ℕ). x % 2) (sym e) ∙ shifted_even 1 k

pub bit_power : (k j : ℕ) → bit (2 ^ k) j ≡ eqb k j
unfolding bit
bit_power zero zero = refl
bit_power zero (suc j) = bit_half 1 j ∙ bit_zero j ∙ sym (eqb-zero-suc j)
bit_power (suc k) zero =
    bit_lowest (2 ^ suc k) ∙ ap (λ (x : ℕ). eqb x 1) (even_power k) ∙ sym (eqb-suc-zero k)
bit_power (suc k) (suc j) =
    bit_half (2 ^ suc k) j ∙ ap (λ (x : ℕ). bit x j) (half_power k) ∙ bit_power k j ∙ sym (eqb-suc-suc k j)

-- the shift of a 1 by less than a word's width
pub one_shifted : (k : ℕ) → k < 64 → 1 * 2 ^ k % 18_446_744_073_709_551_616 ≡ 2 ^ k
one_shifted k h =
    let e : 1 * 2 ^ k ≡ 2 ^ k = omega arith in
    shl_exact 1 k 64 (omega arith) (omega arith) ∙ e

-- ---- or

or_digit : (p q : ℕ) → p < 2 → q < 2 → eqb (max p q) 1 ≡ (eqb p 1 || eqb q 1)
or_digit zero zero h k = refl
or_digit zero (suc zero) h k = refl
or_digit (suc zero) zero h k = refl
or_digit (suc zero) (suc zero) h k = refl
or_digit (suc (suc p)) q h k = absurd (omega arith)
or_digit zero (suc (suc q)) h k = absurd (omega arith)
or_digit (suc zero) (suc (suc q)) h k = absurd (omega arith)

or_odd : (x y : ℕ) → bit_or x y % 2 ≡ max (x % 2) (y % 2)
or_odd x y =
    let l : max (x % 2) (y % 2) < 2 = omega arith in
    ap (λ (n : ℕ). n % 2) (or_step x y) ∙ digits_mod (bit_or (x / 2) (y / 2)) l

pub bit_or_lem : (a b k : ℕ) → bit (bit_or a b) k ≡ (bit a k || bit b k)
unfolding bit
bit_or_lem a b k =
    ap (λ (x : ℕ). eqb (x % 2) 1) (or_shr a b k)
    ∙ ap (λ (x : ℕ). eqb x 1) (or_odd (a / 2 ^ k) (b / 2 ^ k))
    ∙ or_digit (a / 2 ^ k % 2) (b / 2 ^ k % 2) (omega arith) (omega arith)

-- a set bit beside those that were there
pub bit_with : (w k j : ℕ) → bit (with_bit w k) j ≡ (bit w j || eqb k j)
unfolding with_bit
bit_with w k j = bit_or_lem w (2 ^ k) j ∙ ap (λ (t : Bool). bit w j || t) (bit_power k j)
