-- Numbers that follow each other, written one by one. Assumes nothing.
use Prim.Native.Nat.{ℕ, zero, suc, ◌+◌, ◌*◌, ◌-◌, ◌≤◌, ◌<◌}
use mathlib.Core.Path.{◌≡◌, refl, ap, ◌∙◌}
use mathlib.Core.List.{List, ◌++◌}
use native.Mathlib.Omega.{arith}
use native.Mathlib.Nat.{sub-zero, add-zero}
use lib.ListN.{length}
use lib.Seq.{sets, length-sets}
use Rattle.model.specs.Lists.{from}
use Rattle.octets.specs.Numbers.{digits, flat}
use Rattle.octets.proofs.Digits.{length_digits}
use Rattle.records.specs.Layout.{bytes, over}
use Rattle.records.proofs.Runs.{sets_on, sets_over}
use Rattle.records.proofs.Sizes.{length_bytes}

pub length_from : (a n : ℕ) → length (from a n) ≡ n
unfolding from
length_from a zero = refl
length_from a (suc n) = ap suc (length_from (suc a) n)

module _ (first count : ℕ) (b₀ : List ℕ) where
  -- i are written, and those that follow bring the rest
  pub record Counting (b : List ℕ) (i : ℕ) : Type 0 where
    pub done : i ≤ count
    pub long : length b ≡ length b₀
    pub same : sets b (8 * i) (bytes (from (first + i) (count - i))) ≡ sets b₀ 0 (bytes (from first count))

  pub counting_start : Counting b₀ 0
  counting_start = record { done = omega arith; long = refl; same = rw (sub-zero, add-zero) }

  pub counting_next :
      {b b' : List ℕ} {i : ℕ}
      → Counting b i
      → i < count
      → b' ≡ sets b (8 * i) (digits 8 (first + i))
      → Counting b' (i + 1)
  unfolding from bytes flat
  counting_next {b} {b'} {i} s h e =
      let m : count - i ≡ suc (count - (i + 1)) = omega arith in
      let q : first + (i + 1) ≡ suc (first + i) = omega arith in
      let k : 8 * (i + 1) ≡ 8 * i + 8 = omega arith in
      let rest : List ℕ = bytes (from (suc (first + i)) (count - (i + 1))) in
      let t : sets b (8 * i) (digits 8 (first + i) ++ rest) ≡ sets b₀ 0 (bytes (from first count)) = rw m at s.same in
      record {
        done = omega arith;
        long = rw (e, length-sets) s.long;
        same = rw (e, q, k) (sets_on b (digits 8 (first + i)) rest (8 * i) 8 (length_digits 8 (first + i)) ∙ t);
      }

  pub counting_end : {b : List ℕ} {i : ℕ} → 8 * count ≤ length b₀ → Counting b i → count ≤ i → b ≡ over (bytes (from first count)) b₀
  unfolding from bytes flat
  counting_end {b} {i} r s h =
      let m : count - i ≡ 0 = omega arith in
      let e : b ≡ sets b₀ 0 (bytes (from first count)) = rw m at s.same in
      e ∙ sets_over (bytes (from first count)) b₀ (omega (arith, length_bytes (from first count), length_from first count))
