-- What the functions that read a block look at: its count, the check's sum, its records, and its tests in order. Assumes nothing.
use Prim.Native.Nat.{ℕ, suc, ◌+◌, ◌-◌, ◌*◌, ◌%◌, ◌≤◌, ◌<◌}
use mathlib.Core.Path.{◌≡◌, sym, ◌∙◌}
use mathlib.Core.Bool.{Bool, true, false}
use mathlib.Core.List.{List, [], ◌∷◌}
use Rattle.std.specs.Int.{w16, from_le_bytes}
use native.Mathlib.Omega.{arith}
use native.Mathlib.Nat.{mul-le-mul_right}
use lib.ListN.{length, get_or, take, drop, length-take, drop_of_length-le}
use lib.Seq.{drop-drop}
use Rattle.model.specs.Lists.{all}
use Rattle.octets.specs.Numbers.{worth, parts}
use Rattle.file_records.specs.Records.{is_record}
use Rattle.file_blocks.specs.Blocks.{weighed, check_of, records_in}
use Rattle.file_records.proofs.Looking.{front, next}

-- ---- numbers

pub two_worth :
    (b : List ℕ) → length b ≡ 512 → from_le_bytes w16 (get_or b 4 0 ∷ get_or b 5 0 ∷ []) ≡ records_in b
unfolding worth
two_worth b h = rw (front b 4 1 (omega arith), front b 5 0 (omega arith)) (omega arith)

-- ---- the check's sum

-- when i bytes have been weighed
pub record Weighing (b : List ℕ) (sum i : ℕ) : Type 0 where
  pub done : i ≤ 508
  pub small : sum ≤ i * 129_540
  pub rest : sum + weighed (suc i) (drop i (take 508 b)) ≡ weighed 1 (take 508 b)

module _ (b : List ℕ) (long : length b ≡ 512) where
  pub weighing_next :
      {sum i x : ℕ}
      → Weighing b sum i
      → i < 508
      → x ≡ get_or b i 0
      → x < 256
      → Weighing b (sum + (i + 1) * x) (i + 1)
  unfolding weighed
  weighing_next {sum} {i} {x} w l e s =
      let many : (i + 1) * x ≤ 508 * x = mul-le-mul_right x (omega arith) in
      let step : sum + (suc i * get_or b i 0 + weighed (suc (suc i)) (drop (suc i) (take 508 b))) ≡ weighed 1 (take 508 b) =
      rw (next b 508 (omega arith) i l) at w.rest in
      let one : i + 1 ≡ suc i = omega arith in
      record {
        done = omega arith;
        small = omega (arith, w.small);
        rest = rw (e, one) (omega (arith, step));
      }

  pub weighing_end : {sum i : ℕ} → Weighing b sum i → 508 ≤ i → sum % 65_521 ≡ check_of b
  unfolding check_of weighed
  weighing_end {sum} {i} w l =
      let all_done : i ≡ 508 = omega (arith, w.done) in
      let none : drop 508 (take 508 b) ≡ [] = drop_of_length-le (take 508 b) {i = 508} (rw length-take (omega arith)) in
      let total : sum + 0 ≡ weighed 1 (take 508 b) = rw (all_done, none) at w.rest in
      let same : sum ≡ weighed 1 (take 508 b) = omega arith in
      rw same

-- ---- the records of a block

-- those that are still to be looked at when i have been
pub record Checking (b : List ℕ) (n i : ℕ) : Type 0 where
  pub done : i ≤ n
  pub rest : all is_record (parts (take 20) 20 (n - i) (drop (8 + 20 * i) b)) ≡ all is_record (parts (take 20) 20 n (drop 8 b))

module _ (b : List ℕ) (n : ℕ) where
  pub checking_no :
      {i : ℕ} {r : Bool}
      → Checking b n i
      → i < n
      → r ≡ is_record (take 20 (drop (8 + 20 * i) b))
      → r ≡ false
      → false ≡ all is_record (parts (take 20) 20 n (drop 8 b))
  unfolding parts all
  checking_no {i} {r} k l e f =
      let m : n - i ≡ suc (n - i - 1) = omega arith in
      let none : is_record (take 20 (drop (8 + 20 * i) b)) ≡ false = sym e ∙ f in
      rw (m, none) at k.rest

  pub checking_next :
      {i : ℕ} {r : Bool}
      → Checking b n i
      → i < n
      → r ≡ is_record (take 20 (drop (8 + 20 * i) b))
      → r ≡ true
      → Checking b n (i + 1)
  unfolding parts all
  checking_next {i} {r} k l e f =
      let m : n - i ≡ suc (n - (i + 1)) = omega arith in
      let one : is_record (take 20 (drop (8 + 20 * i) b)) ≡ true = sym e ∙ f in
      let at : 8 + 20 * (i + 1) ≡ 8 + 20 * i + 20 = omega arith in
      record {
        done = omega arith;
        rest = rw (at, ← drop-drop 20 (8 + 20 * i) b) (rw (m, one) at k.rest);
      }

  pub checking_end : {i : ℕ} → Checking b n i → n ≤ i → true ≡ all is_record (parts (take 20) 20 n (drop 8 b))
  unfolding parts all
  checking_end {i} k l = let z : n - i ≡ 0 = omega arith in rw z at k.rest
