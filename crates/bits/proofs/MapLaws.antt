-- A map of bits: what is in an empty one, in one that is marked, and past the end. Assumes nothing.
use Prim.Native.Nat.{ℕ, zero, suc, ◌/◌, ◌%◌, ◌≤◌, ◌<◌}
use mathlib.Core.Path.{◌≡◌, refl, sym, ap, ◌∙◌}
use mathlib.Core.Bool.{Bool, true, false, ◌||◌, or-false, or-true}
use mathlib.Core.List.{List}
use native.Mathlib.Omega.{arith}
use lib.Dec.{eqb, ltb}
use lib.ListN.{length, get_or, set, replicate, length-set, get_or-eq_default}
use lib.Seq.{get_or-set_same, get_or-set_other, set_out}
use borrow.Author.Tests.{eq-eqb, ne_eqb, eqb-true, eqb-false, ltb-true, ltb-false}
use Rattle.bits.specs.Words.{bit, with_bit}
use Rattle.bits.specs.Maps.{has_bit, marked}
use Rattle.bits.proofs.WordLaws.{bit_zero, bit_with}

pub past_end : (m : List ℕ) (n : ℕ) → length m ≤ n / 64 → has_bit m n ≡ false
unfolding has_bit
past_end m n h = ap (λ (w : ℕ). bit w (n % 64)) (get_or-eq_default m 0 h) ∙ bit_zero (n % 64)

-- ---- a map of zeros has nothing in it

zero_word : (words i : ℕ) → get_or {A = ℕ} (replicate words 0) i 0 ≡ 0
zero_word zero i = refl
zero_word (suc words) zero = refl
zero_word (suc words) (suc i) = zero_word words i

pub empty_map : (words n : ℕ) → has_bit (replicate words 0) n ≡ false
unfolding has_bit
empty_map words n = ap (λ (w : ℕ). bit w (n % 64)) (zero_word words (n / 64)) ∙ bit_zero (n % 64)

-- ---- a marked map

pub length_marked : (m : List ℕ) (n : ℕ) → length (marked m n) ≡ length m
unfolding marked
length_marked m n = length-set m (n / 64) _

-- a map that ends before n stays as it is
pub marked_past_end : (m : List ℕ) (n : ℕ) → length m ≤ n / 64 → marked m n ≡ m
unfolding marked
marked_past_end m n h = set_out m (n / 64) _ h

-- two numbers of one word are the same where their bits are
same_bit : (n k : ℕ) → k / 64 ≡ n / 64 → eqb (n % 64) (k % 64) ≡ eqb n k
same_bit n k same = go (eqb n k) refl
  where
    go : (t : Bool) → eqb n k ≡ t → eqb (n % 64) (k % 64) ≡ t
    go true e = let h : n ≡ k = eqb-true n k e in eq-eqb (n % 64) (k % 64) (ap (λ (x : ℕ). x % 64) h)
    go false e = let h : n ≡ k → ⊥ = eqb-false n k e in ne_eqb (n % 64) (k % 64) (λ (f : n % 64 ≡ k % 64). h (omega arith))

module _ (m : List ℕ) (n k : ℕ) where
  -- the number itself is in it, and every other one as before
  pub has_marked : n / 64 < length m → has_bit (marked m n) k ≡ (has_bit m k || eqb n k)
  unfolding has_bit marked
  has_marked h = go (eqb (k / 64) (n / 64)) refl
    where
      go :
          (t : Bool)
          → eqb (k / 64) (n / 64) ≡ t
          → bit (get_or (set m (n / 64) (with_bit (get_or m (n / 64) 0) (n % 64))) (k / 64) 0) (k % 64)
          ≡ (bit (get_or m (k / 64) 0) (k % 64) || eqb n k)
      go true e =
          let same : k / 64 ≡ n / 64 = eqb-true _ _ e in
          rw (same, get_or-set_same m (n / 64) (with_bit (get_or m (n / 64) 0) (n % 64)) 0 h, bit_with, same_bit n k same)
      go false e =
          let apart : k / 64 ≡ n / 64 → ⊥ = eqb-false _ _ e in
          let unlike : n ≡ k → ⊥ = λ (f : n ≡ k). apart (ap (λ (x : ℕ). x / 64) (sym f)) in
          rw (get_or-set_other m (n / 64) (k / 64) (with_bit (get_or m (n / 64) 0) (n % 64)) 0 apart, ne_eqb n k unlike, or-false)

  pub marked_other : (n ≡ k → ⊥) → has_bit (marked m n) k ≡ has_bit m k
  marked_other x = go (ltb (n / 64) (length m)) refl
    where
      go : (t : Bool) → ltb (n / 64) (length m) ≡ t → has_bit (marked m n) k ≡ has_bit m k
      go true e = has_marked (ltb-true _ _ e) ∙ ap (λ (t : Bool). has_bit m k || t) (ne_eqb n k x) ∙ or-false (has_bit m k)
      go false e = ap (λ (l : List ℕ). has_bit l k) (marked_past_end m n (ltb-false _ _ e))

pub marked_itself : (m : List ℕ) (n : ℕ) → n / 64 < length m → has_bit (marked m n) n ≡ true
marked_itself m n h = has_marked m n n h ∙ ap (λ (t : Bool). has_bit m n || t) (eq-eqb n n refl) ∙ or-true (has_bit m n)
