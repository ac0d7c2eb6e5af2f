-- A number with a sign, put as its digits: below zero a minus sign and its size. Assumes nothing.
use Prim.Native.Nat.{ℕ, suc, ◌+◌, ◌-◌, ◌*◌, ◌^◌, ◌≤◌, ◌<◌}
use mathlib.Core.Path.{◌≡◌, refl, ap}
use mathlib.Core.Bool.{true, false}
use mathlib.Core.List.{List, [], ◌∷◌, ◌++◌, append-nil}
use native.Mathlib.Omega.{arith}
use lib.ListN.{length, length-append}
use lib.IntN.{ℤ, pos, negsuc, nat_abs, ◌-ℤ◌}
use lib.Signed.{mag, lt_z}
use borrow.Author.Tests.{ltb-true}
use mir.Syntax.{w64}
use mir.Val.{SFits, to_z, of_z}
use mir.ValLaws.{to_z-of_z}
use Rattle.model.specs.declared.ReportReply.{ReportReply}
use Rattle.model.specs.declared.ReportReply.TheVariants.{Refused, Priced}
use Rattle.model.specs.Lines.{digits, spaced, refusal_line}
use Rattle.replies.specs.Words.{word}
use Rattle.replies.proofs.Signs.{below_small, below_word}
use Rattle.printing.specs.Printing.{Wrote}
use Rattle.printing.proofs.Printed.{and_then, spaced_fits}
use Rattle.printing.proofs.Replied.{refusal_fits}
use Rattle.floors.specs.Floor.{signed, signed_reply, report_line}

-- ---- a number with its sign

below_signed : (z : ℤ) → lt_z z (pos 0) ≡ true → 45 ∷ digits 20 (nat_abs z) ≡ signed z
unfolding signed
below_signed (pos n) e = let g : n < 0 = ltb-true n 0 e in absurd (omega arith)
below_signed (negsuc n) e = refl

above_signed : (z : ℤ) → lt_z z (pos 0) ≡ false → digits 20 (nat_abs z) ≡ signed z
unfolding signed
above_signed (pos n) e = refl
above_signed (negsuc n) e = let z : ◌≡◌ {A = ℕ} 0 1 = cc in absurd (omega arith)

-- as the code has it: every signed number is read from its bits
module _ (z : ℤ) (f : SFits w64 z) where
  abbrev bits : ℤ
  bits = to_z w64 (of_z w64 z)

  module _ (e : lt_z bits (pos 0) ≡ true) where
    pub minus_signed : {n : ℕ} → n ≡ nat_abs z → 45 ∷ digits 20 n ≡ signed z
    minus_signed k = rw k (below_signed z (rw (to_z-of_z w64 z f) at e))

  module _ (e : lt_z bits (pos 0) ≡ false) where
    pub plus_signed : {n : ℕ} → n ≡ nat_abs z → digits 20 n ≡ signed z
    plus_signed k = rw k (above_signed z (rw (to_z-of_z w64 z f) at e))

-- ---- the room that numbers take, each with a space in front

pub number_fits : (n : ℕ) → length (32 ∷ digits 20 n) ≤ 21
unfolding spaced
number_fits n =
    let h : length (32 ∷ digits 20 n ++ []) ≤ 21 = spaced_fits (n ∷ []) in
    omega (arith, ap length (append-nil (32 ∷ digits 20 n)), h)

pub signed_fits : (z : ℤ) → length (32 ∷ signed z) ≤ 22
unfolding signed
signed_fits (pos n) = omega (arith, number_fits n)
signed_fits (negsuc n) = omega (arith, number_fits (suc n))

-- ---- a line whose last number has a sign

pub signed_reply_fits : (c : ℕ) (ns : List ℕ) (z : ℤ) → length (signed_reply c ns z) ≤ 21 * length ns + 24
unfolding signed_reply
signed_reply_fits c ns z =
    let h = spaced_fits ns in
    let g = signed_fits z in
    rw (length-append, length-append) (omega (arith, h, g))

-- letter, numbers, the one with a sign and newline one after the other
pub put_signed_whole :
    (c : ℕ) (ns : List ℕ) (z : ℤ) {o o₁ o₂ o₃ o₄ : List ℕ} {at p q r s : ℕ}
    → Wrote o at (c ∷ []) o₁ p
    → Wrote o₁ p (spaced ns) o₂ q
    → Wrote o₂ q (32 ∷ signed z) o₃ r
    → Wrote o₃ r (10 ∷ []) o₄ s
    → Wrote o at (signed_reply c ns z) o₄ s
unfolding signed_reply
put_signed_whole c ns z u v w x = and_then (and_then (and_then u v) w) x

-- ---- the report

-- a report's line never needs more than 110 bytes
pub report_fits : (told : ReportReply) → length (report_line told) ≤ 110
unfolding report_line
report_fits (Refused n) = refusal_fits n
report_fits (Priced price volume surplus) = omega (arith, signed_reply_fits 82 (price ∷ volume ∷ []) surplus)

pub priced_line :
    (price volume : ℕ) {surplus shown : ℤ}
    → shown ≡ surplus
    → signed_reply 82 (price ∷ volume ∷ []) shown ≡ report_line (Priced price volume surplus)
unfolding report_line
priced_line price volume e = rw e

-- the report by its cases
pub refused_report : {told : ReportReply} {n : ℕ} → told ≡ Refused n → refusal_line n ≡ report_line told
unfolding report_line
refused_report e = rw e

pub priced_report :
    {told : ReportReply} {price volume : ℕ} {surplus shown : ℤ}
    → told ≡ Priced price volume surplus
    → shown ≡ surplus
    → report_line (Priced price volume shown) ≡ report_line told
priced_report e f = rw (e, f)
