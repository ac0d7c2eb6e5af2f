-- A pile from its top downwards: what is still to be looked for stays the same. Assumes nothing.
use Prim.Native.Nat.{ℕ, suc, ◌-◌, ◌%◌, ◌≤◌, ◌<◌}
use mathlib.Core.Path.{◌≡◌, refl, sym, ap, ◌∙◌}
use mathlib.Core.Bool.{true, false, and-false}
use mathlib.Core.List.{List}
use native.Mathlib.Omega.{arith}
use lib.ListN.{length, get_or}
use borrow.Author.Tests.{eq-eqb, ne_eqb, eqb-true}
use Rattle.model.specs.declared.Order.{Order}
use Rattle.model.specs.Book.{free, is_live}
use Rattle.model.proofs.Bools.{and_left, and_right, and_both}
use Rattle.lookup.specs.Piles.{last_of, bears, place_by, on_pile, Piled}
use Rattle.lookup.proofs.Lasts.{last_zero, last_here, last_past, last_most, last_passes, last_of_last}

-- a number lies on the pile of its remainder
bears_pile : (n : ℕ) (o : Order) → bears n o ≡ true → on_pile (n % 65_536) o ≡ true
unfolding bears on_pile
bears_pile n o e =
    let same : o.number ≡ n = eqb-true o.number n (and_right (is_live o) _ e) in
    and_both (and_left (is_live o) _ e) (eq-eqb (o.number % 65_536) (n % 65_536) (ap (λ (m : ℕ). m % 65_536) same))

bears_it : (n : ℕ) (o : Order) → is_live o ≡ true → o.number ≡ n → bears n o ≡ true
unfolding bears
bears_it n o l e = and_both l (eq-eqb o.number n e)

bears_another : (n : ℕ) (o : Order) → (o.number ≡ n → ⊥) → bears n o ≡ false
unfolding bears
bears_another n o d = rw (ne_eqb o.number n d) (and-false (is_live o))

module _ (n : ℕ) (book : List Order) where
  -- the place that is looked for is not behind this one, which lies on its pile
  pub record Sought (at : ℕ) : Type 0 where
    pub same : last_of (bears n) book at ≡ place_by n book
    pub on : last_of (on_pile (n % 65_536)) book at ≡ at
    pub within : at ≤ length book

  -- from here on down
  on_down : (i at : ℕ) → i ≤ length book → last_of (bears n) book i ≡ place_by n book → at ≡ last_of (on_pile (n % 65_536)) book i → Sought at
  on_down i at h s e =
      rw e
      record {
        same = last_of_last (bears n) (on_pile (n % 65_536)) (bears_pile n) book i ∙ s;
        on = last_of_last (on_pile (n % 65_536)) (on_pile (n % 65_536)) (λ o f. f) book i;
        within = omega (arith, last_most (on_pile (n % 65_536)) book i);
      }

  pub sought_first :
      (tops under : List ℕ) {at : ℕ}
      → Piled book (length book) tops under
      → at ≡ get_or tops (n % 65_536) 0
      → Sought at
  unfolding place_by
  sought_first tops under p e = on_down (length book) _ (omega arith) refl (e ∙ p.top (n % 65_536))

  pub sought_none : {at : ℕ} → at ≤ 0 → Sought at → 0 ≡ place_by n book
  sought_none {at} h s =
      let z : at ≡ 0 = omega arith in
      sym (last_zero (bears n) book) ∙ ap (last_of (bears n) book) (sym z) ∙ s.same

  module _ (j : ℕ) (s : Sought (suc j)) (o : Order) (e : o ≡ get_or book j free) where
    lies : on_pile (n % 65_536) (get_or book j free) ≡ true
    lies = (last_passes (on_pile (n % 65_536)) book (suc j) j s.on).0

    live : is_live (get_or book j free) ≡ true
    live = unfold on_pile in and_left (is_live (get_or book j free)) _ lies

    remainder : (get_or book j free).number % 65_536 ≡ n % 65_536
    remainder = unfold on_pile in eqb-true _ _ (and_right (is_live (get_or book j free)) _ lies)

    found_here : o.number ≡ n → suc j ≡ place_by n book
    found_here f =
        let number : (get_or book j free).number ≡ n = ap (λ (x : Order). x.number) (sym e) ∙ f in
        sym (last_here (bears n) book j (bears_it n (get_or book j free) live number)) ∙ s.same

    next_down :
        (tops under : List ℕ) {at : ℕ}
        → Piled book (length book) tops under
        → (o.number ≡ n → ⊥)
        → at ≡ get_or under j 0
        → Sought at × (at < suc j)
    next_down tops under {at} p f g =
        let off : (get_or book j free).number ≡ n → ⊥ = λ h. f (ap (λ (x : Order). x.number) e ∙ h) in
        let k : suc j ≤ length book = s.within in
        let under_it : at ≡ last_of (on_pile (n % 65_536)) book j =
        g ∙ p.below j (omega arith) live ∙ ap (λ (r : ℕ). last_of (on_pile r) book j) remainder in (
          on_down j at (omega arith) (sym (last_past (bears n) book j (bears_another n (get_or book j free) off)) ∙ s.same) under_it,
          omega (arith, last_most (on_pile (n % 65_536)) book j),
        )

-- ---- as the code has it, which counts from 1

module _
    (n : ℕ) (rows : List Order) (at : ℕ) (h : 0 < at) (s : Sought n rows at)
    (o : Order) (e : o ≡ get_or rows (at - 1) free) where
  counted : at ≡ suc (at - 1)
  counted = omega arith

  here : Sought n rows (suc (at - 1))
  here = rw counted at s

  pub found_there : o.number ≡ n → at ≡ place_by n rows
  found_there f = counted ∙ found_here n rows (at - 1) here o (e) f

  pub further_down :
      (tops under : List ℕ) {next : ℕ}
      → Piled rows (length rows) tops under
      → (o.number ≡ n → ⊥)
      → next ≡ get_or under (at - 1) 0
      → Sought n rows next × (next < at)
  further_down tops under p f g =
      let r = next_down n rows (at - 1) here o (e) tops under p f g in
      (r.0, omega (arith, r.1))

-- a place that is found is one of the book's
pub place_within : (n : ℕ) (rows : List Order) {at : ℕ} → at ≡ place_by n rows → at ≤ length rows
unfolding place_by
place_within n rows e =
    omega (arith, e, last_most (bears n) rows (length rows))
