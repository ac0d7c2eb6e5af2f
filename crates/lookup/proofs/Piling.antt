-- One order after the other goes on its pile. Assumes nothing.
use Rattle.std.specs.Prelude.{if◌then◌else◌}
use Prim.Native.Nat.{ℕ, zero, suc, ◌+◌, ◌%◌, ◌≤◌, ◌<◌}
use mathlib.Core.Path.{◌≡◌, refl, sym, ap, ◌∙◌}
use mathlib.Core.Bool.{Bool, true, false, and-false}
use mathlib.Core.List.{List}
use native.Mathlib.Decide.{ℕ_discrete}
use native.Mathlib.Numerals.{add-one}
use native.Mathlib.Omega.{arith}
use lib.ListN.{length, get_or, set, replicate, length-set, length-replicate}
use lib.Seq.{get_or-set_same, get_or-set_other}
use borrow.Author.Tests.{eq-eqb, ne_eqb}
use Rattle.model.specs.declared.Order.{Order}
use Rattle.model.specs.Book.{free, is_live}
use Rattle.model.proofs.Bools.{and_both, not_both}
use Rattle.lookup.specs.Piles.{last_of, on_pile, none_yet, tops_with, under_with, Piled}
use Rattle.lookup.proofs.Lasts.{last_zero, last_here, last_past}

none_at : (n r : ℕ) → get_or {A = ℕ} (replicate n 0) r 0 ≡ 0
none_at zero r = refl
none_at (suc n) zero = refl
none_at (suc n) (suc r) = none_at n r

pub none_length : (n : ℕ) {l : List ℕ} → l ≡ none_yet n → length l ≡ n
unfolding none_yet
none_length n e = ap length e ∙ length-replicate {A = ℕ} n 0

pub piled_none :
    (book : List Order) (tops under : List ℕ)
    → tops ≡ none_yet 65_536
    → length book ≤ length under
    → Piled book 0 tops under
unfolding none_yet
piled_none book tops under e l =
    record {
      wide = none_length 65_536 e;
      long = l;
      top = λ r. ap (λ (m : List ℕ). get_or m r 0) e ∙ none_at 65_536 r ∙ sym (last_zero (on_pile r) book);
      below = λ j h. absurd (omega arith);
    }

module _ (o : Order) where
  pile_own : is_live o ≡ true → on_pile (o.number % 65_536) o ≡ true
  unfolding on_pile
  pile_own e = and_both e (eq-eqb (o.number % 65_536) (o.number % 65_536) refl)

  pile_other : (r : ℕ) → (r ≡ o.number % 65_536 → ⊥) → on_pile r o ≡ false
  unfolding on_pile
  pile_other r n = rw (ne_eqb (o.number % 65_536) r (λ e. n (sym e))) (and-false (is_live o))

  pile_free : is_live o ≡ false → (r : ℕ) → on_pile r o ≡ false
  unfolding on_pile
  pile_free e r = rw e

module _
    (book : List Order) (i : ℕ) (tops under : List ℕ) (p : Piled book i tops under)
    (o : Order) (e : o ≡ get_or book i free) (l : i < length book) where
  here : (r : ℕ) {b : Bool} → on_pile r o ≡ b → on_pile r (get_or book i free) ≡ b
  here r f = ap (on_pile r) (sym e) ∙ f

  live_more : is_live o ≡ true → Piled book (suc i) (set tops (o.number % 65_536) (suc i)) (set under i (get_or tops (o.number % 65_536) 0))
  live_more f =
      record {
        wide = length-set tops (o.number % 65_536) (suc i) ∙ p.wide;
        long = omega (arith, p.long, length-set under i (get_or tops (o.number % 65_536) 0));
        top = λ r. on_top r;
        below = λ j h k. lies j h k;
      }
    where
      small : o.number % 65_536 < length tops
      small = omega (arith, p.wide)

      room : i < length under
      room = omega (arith, p.long)

      on_top : (r : ℕ) → get_or (set tops (o.number % 65_536) (suc i)) r 0 ≡ last_of (on_pile r) book (suc i)
      on_top r = elim (ℕ_discrete r (o.number % 65_536)) [
        | yes s ↦
            rw s
            (get_or-set_same tops (o.number % 65_536) (suc i) 0 small
            ∙ sym (last_here (on_pile (o.number % 65_536)) book i (here (o.number % 65_536) (pile_own o f))))
        | no n ↦
            get_or-set_other tops (o.number % 65_536) r (suc i) 0 n ∙ p.top r
            ∙ sym (last_past (on_pile r) book i (here r (pile_other o r n)))
      ]

      lies :
          (j : ℕ)
          → j < suc i
          → is_live (get_or book j free) ≡ true
          → get_or (set under i (get_or tops (o.number % 65_536) 0)) j 0 ≡ last_of (on_pile ((get_or book j free).number % 65_536)) book j
      lies j h k = elim (ℕ_discrete j i) [
        | yes s ↦
            rw s
            (get_or-set_same under i (get_or tops (o.number % 65_536) 0) 0 room ∙ p.top (o.number % 65_536)
            ∙ ap (λ (x : Order). last_of (on_pile (x.number % 65_536)) book i) e)
        | no n ↦
            get_or-set_other under i j (get_or tops (o.number % 65_536) 0) 0 n ∙ p.below j (omega arith) k
      ]

  free_more : is_live o ≡ false → Piled book (suc i) tops under
  free_more f =
      record {
        wide = p.wide;
        long = p.long;
        top = λ r. p.top r ∙ sym (last_past (on_pile r) book i (here r (pile_free o f r)));
        below = λ j h k. elim (ℕ_discrete j i) [
          | yes s ↦ absurd (not_both k (ap (λ (n : ℕ). is_live (get_or book n free)) s ∙ ap is_live (sym e) ∙ f))
          | no n ↦ p.below j (omega arith) k
        ];
      }

  piled_more :
      (tops' under' : List ℕ)
      → tops' ≡ tops_with o i tops
      → under' ≡ under_with o i tops under
      → Piled book (i + 1) tops' under'
  unfolding tops_with under_with
  piled_more tops' under' a b = rw (a, b, add-one i) (go (is_live o) refl)
    where
      go :
          (t : Bool)
          → is_live o ≡ t
          → Piled book (suc i) (if t then set tops (o.number % 65_536) (suc i) else tops)
          (if t then set under i (get_or tops (o.number % 65_536) 0) else under)
      go true f = live_more f
      go false f = free_more f

under_length : (o : Order) (i : ℕ) (tops under : List ℕ) → length (under_with o i tops under) ≡ length under
unfolding under_with
under_length o i tops under = go (is_live o)
  where
    go : (t : Bool) → length (if t then set under i (get_or tops (o.number % 65_536) 0) else under) ≡ length under
    go true = length-set under i _
    go false = refl

-- ---- as the code has it

module _ (rows : List Order) (i : ℕ) (tops under : List ℕ) where
  pub piled_on :
      Piled rows i tops under
      → {o : Order} {tops' under' : List ℕ}
      → o ≡ get_or rows i free
      → i < length rows
      → (tops' ≡ tops_with o i tops) × (under' ≡ under_with o i tops under)
      → (length tops' ≡ length tops) × (length under' ≡ length under) × Piled rows (i + 1) tops' under'
  piled_on p {o} {tops'} {under'} e l w =
      let q = piled_more rows i tops under p o (e) (omega (arith, l)) tops' under' w.0 w.1 in
      (q.wide ∙ sym p.wide, ap length w.1 ∙ under_length o i tops under, q)

  -- all of them
  pub piled_all : length rows ≤ i → i ≤ length rows → Piled rows i tops under → Piled rows (length rows) tops under
  piled_all h k p =
      let e : i ≡ length rows = omega arith in
      rw (sym e) p
