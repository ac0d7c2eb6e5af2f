-- A number with a sign as 64 bits, and back: below zero it is counted down from the top. Assumes nothing.
use Prim.Native.Nat.{ℕ, zero, suc, ◌-◌, ◌^◌, ◌≤◌, ◌<◌}
use mathlib.Core.Path.{◌≡◌, refl, ap, ◌∙◌}
use mathlib.Core.Bool.{Bool, true, false, cond}
use mathlib.Core.List.{[], ◌∷◌}
use native.Mathlib.Omega.{arith}
use borrow.Author.Tests.{ltb-true, ltb-false, lt-ltb, le-ltb}
use lib.Dec.{T, ltb}
use lib.IntN.{ℤ, pos, negsuc, nat_abs, ◌-ℤ◌}
use lib.Signed.{mag, lt_z, non_neg}
use mir.Syntax.{w64}
use mir.Val.{SFits, Fits, to_z, of_z}
use mir.ValLaws.{to_z-of_z}
use Rattle.model.specs.declared.ReportReply.{ReportReply}
use Rattle.model.specs.declared.ReportReply.TheVariants.{Priced}
use Rattle.model.specs.Replies.{report_numbers}
use Rattle.replies.specs.Words.{word, signed, report_words}

-- below zero: how far below -1
counted : (n : ℕ) → negsuc 0 -ℤ negsuc n ≡ pos n
counted n = rw (le-ltb (suc n) 1 (omega arith)) (ap pos (omega arith))

down : (z : ℤ) → lt_z z (pos 0) ≡ true → negsuc 0 -ℤ z ≡ pos (mag z)
down (pos n) e = let h : n < 0 = ltb-true n 0 e in absurd (omega arith)
down (negsuc n) e = counted n

down_word : (z : ℤ) → lt_z z (pos 0) ≡ true → word z ≡ 2 ^ 64 - suc (mag z)
unfolding word
down_word (pos n) e = let h : n < 0 = ltb-true n 0 e in absurd (omega arith)
down_word (negsuc n) e = refl

up : (z : ℤ) → lt_z z (pos 0) ≡ false → z ≡ pos (mag z)
up (pos n) e = refl
up (negsuc n) e = let z : ◌≡◌ {A = ℕ} 0 1 = cc in absurd (omega arith)

up_word : (z : ℤ) → lt_z z (pos 0) ≡ false → mag z ≡ word z
unfolding word
up_word (pos n) e = refl
up_word (negsuc n) e = let z : ◌≡◌ {A = ℕ} 0 1 = cc in absurd (omega arith)

-- as the code has them: every signed number is read from its bits and written to bits
module _ (z : ℤ) (f : SFits w64 z) where
  abbrev bits : ℤ
  bits = to_z w64 (of_z w64 z)

  module _ (e : lt_z bits (pos 0) ≡ true) where
    sign : lt_z z (pos 0) ≡ true
    sign = rw (to_z-of_z w64 z f) at e

    below_is : negsuc 0 -ℤ bits ≡ pos (mag z)
    below_is = rw (to_z-of_z w64 z f) (down z sign)

    pub below_fits : SFits w64 (negsuc 0 -ℤ bits)
    below_fits = rw below_is (record { sfits = f.sfits })

    below_back : to_z w64 (of_z w64 (negsuc 0 -ℤ bits)) ≡ pos (mag z)
    below_back = to_z-of_z w64 (negsuc 0 -ℤ bits) below_fits ∙ below_is

    mag_small : mag z < 2 ^ 63
    mag_small = f.sfits

    pub below_casts : T (non_neg (to_z w64 (of_z w64 (negsuc 0 -ℤ bits)))) × Fits w64 (nat_abs (to_z w64 (of_z w64 (negsuc 0 -ℤ bits))))
    below_casts = rw below_back (tt, record { fits = omega (arith, mag_small) })

    pub below_small : nat_abs (to_z w64 (of_z w64 (negsuc 0 -ℤ bits))) ≤ 18446744073709551615
    below_small = rw below_back (omega (arith, mag_small))

    pub below_word : 18446744073709551615 - nat_abs (to_z w64 (of_z w64 (negsuc 0 -ℤ bits))) ≡ word z
    below_word = rw (below_back, down_word z sign) (omega (arith, mag_small))

  module _ (e : lt_z bits (pos 0) ≡ false) where
    bits_are : bits ≡ pos (mag z)
    bits_are = to_z-of_z w64 z f ∙ up z (rw (to_z-of_z w64 z f) at e)

    pub above_casts : T (non_neg bits) × Fits w64 (nat_abs bits)
    above_casts = rw bits_are (tt, record { fits = omega (arith, f.sfits) })

    pub above_word : nat_abs bits ≡ word z
    above_word = rw bits_are (up_word z (rw (to_z-of_z w64 z f) at e))

-- ---- and back

minus_one : (m : ℕ) → negsuc 0 -ℤ pos m ≡ negsuc m
minus_one zero = refl
minus_one (suc m) = ap negsuc (omega arith)

pub low_signed : (x : ℕ) → x < 2 ^ 63 → to_z w64 x ≡ signed x
unfolding signed
low_signed x h = rw (lt-ltb x (2 ^ 63) h)

module _ (x : ℕ) (f : x < 2 ^ 64) (h : 2 ^ 63 ≤ x) where
  -- how far below -1
  abbrev below : ℕ
  below = 18446744073709551615 - x

  below_low : below < 2 ^ 63
  below_low = omega arith

  high_is : negsuc 0 -ℤ to_z w64 below ≡ negsuc below
  high_is = ap (λ (z : ℤ). negsuc 0 -ℤ z) (to_z-of_z w64 (pos below) (record { sfits = below_low })) ∙ minus_one below

  pub high_fits : SFits w64 (negsuc 0 -ℤ to_z w64 below)
  high_fits = rw high_is (record { sfits = below_low })

  pub high_signed : to_z w64 (of_z w64 (negsuc 0 -ℤ to_z w64 below)) ≡ signed x
  unfolding signed
  high_signed =
      let e : below ≡ 2 ^ 64 - suc x = omega arith in
      rw (le-ltb x (2 ^ 63) h) (to_z-of_z w64 (negsuc 0 -ℤ to_z w64 below) high_fits ∙ high_is ∙ ap negsuc e)

pub word_signed : (x : ℕ) → x < 2 ^ 64 → word (signed x) ≡ x
unfolding word signed
word_signed x f = go (ltb x (2 ^ 63)) refl
  where
    go : (b : Bool) → ltb x (2 ^ 63) ≡ b → word (cond b (pos x) (negsuc (2 ^ 64 - suc x))) ≡ x
    go true e = refl
    go false e = let h : 2 ^ 63 ≤ x = ltb-false x (2 ^ 63) e in omega arith

pub signed_word : (z : ℤ) → mag z < 2 ^ 63 → signed (word z) ≡ z
unfolding word signed
signed_word (pos n) h = rw (lt-ltb n (2 ^ 63) h)
signed_word (negsuc n) h =
    let k : 2 ^ 63 ≤ 2 ^ 64 - suc n = omega arith in
    let e : 2 ^ 64 - suc (2 ^ 64 - suc n) ≡ n = omega arith in
    rw (le-ltb (2 ^ 64 - suc n) (2 ^ 63) k) (ap negsuc e)

-- the words of a report with a price
pub priced :
    (price volume : ℕ) (surplus : ℤ) {told : ReportReply} {w : ℕ}
    → told ≡ Priced price volume surplus
    → w ≡ word surplus
    → 0 ∷ price ∷ volume ∷ w ∷ [] ≡ report_words told
unfolding report_words report_numbers word
priced price volume surplus t e = rw (t, e)
