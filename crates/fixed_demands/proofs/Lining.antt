-- Orders lined up by time alone: how many places there are, who stands there, what they add up to, and that they are in order of arrival, after
-- trades too. Assumes nothing.
use Prim.Native.Nat.{ℕ, ◌-◌, ◌≤◌, ◌<◌}
use mathlib.Core.Path.{◌≡◌, refl, sym, ap, ◌∙◌}
use mathlib.Core.Logic.{◌⊎◌, inl, inr, ⊎_elim}
use mathlib.Core.Bool.{Bool, true, false, ◌&&◌}
use mathlib.Core.List.{List, [], ◌∷◌, ◌++◌, map, append-nil}
use native.Mathlib.Nat.{le_refl}
use native.Mathlib.Omega.{arith}
use lib.ListN.{length, replicate}
use lib.Dec.{eqb}
use Rattle.model.specs.declared.Order.{Order}
use Rattle.model.specs.declared.Trade.{Trade}
use Rattle.model.specs.Lists.{keep, total}
use Rattle.model.specs.Book.{free, is_live, stands_on}
use Rattle.model.specs.Arrival.{is_taken, in_arrival}
use Rattle.model.specs.Matching.{settle}
use Rattle.model.specs.FixedBook.{lined}
use Rattle.model.specs.Sound.{has_places}
use Rattle.model.specs.Words.{Each, Apart}
use Rattle.model.proofs.Bools.{true_or_false}
use Rattle.book.proofs.Lists.{each, every, keep_true, keep_false, keep_append, keep_keep, keep_same}
use Rattle.book.proofs.Kept.{Less, after, after_less, free_number}
use Rattle.book.proofs.Sorting.{Rising, rising_over}
use Rattle.book.proofs.Best.{each_kept}
use Rattle.book.proofs.Counting.{orders}
use Rattle.book.proofs.Parts.{keep_frees}
use Rattle.arrivals.proofs.Lines.{taken, is_taken_lem, not_taken, untaken_number, rising_from}
use Rattle.arrivals.proofs.Places.{places_length, places_arrive, places_fit, places_total, places_each}

-- an order's number
abbrev pub nr : Order → ℕ
nr o = o.number

-- the live ones are the taken places
pub live_taken : (os : List Order) → keep is_live os ≡ taken nr os
unfolding is_live is_taken
live_taken os = refl

-- ---- in order of arrival

-- one number, one order
pub rising_apart : (a : ℕ) (os : List Order) → Rising nr a (taken nr os) → Apart os
rising_apart a [] r = tt
rising_apart a (o ∷ os) r = go (is_taken nr o) refl (rising_apart a os) (rising_apart o.number os)
  where
    others : Rising nr o.number (taken nr os) → Each (λ p. p.number ≡ o.number → o.number ≡ 0) os
    others h =
        each (λ p. is_taken nr p ≡ true → o.number < p.number) (λ p. p.number ≡ o.number → o.number ≡ 0) os
        (λ p l e. ⊎_elim (λ t. absurd (omega (arith, l t))) (λ u. sym e ∙ untaken_number nr p u) (true_or_false (is_taken nr p)))
        (each_kept (λ p. o.number < p.number) (is_taken nr) os (rising_over nr o.number o.number (taken nr os) (le_refl o.number) h))

    go :
        (b : Bool)
        → is_taken nr o ≡ b
        → (Rising nr a (taken nr os) → Apart os)
        → (Rising nr o.number (taken nr os) → Apart os)
        → Apart (o ∷ os)
    go true x same more = let h : Rising nr a (o ∷ taken nr os) = rw (keep_true (is_taken nr) o os x) at r in (others h.1, more h.1)
    go false x same more =
        let z : o.number ≡ 0 = untaken_number nr o x in
        (every (λ p. p.number ≡ o.number → o.number ≡ 0) os (λ p e. z), same (rw (keep_false (is_taken nr) o os x) at r))

-- trades leave the order as it is
pub settled_rises : (ts : List Trade) (a : ℕ) (os : List Order) → Rising nr a (taken nr os) → Rising nr a (taken nr (settle ts os))
unfolding settle
settled_rises ts a [] r = unfold keep in tt
settled_rises ts a (o ∷ os) r = go (is_taken nr o) refl (settled_rises ts a os) (settled_rises ts o.number os)
  where
    -- nobody comes in
    off : is_taken nr o ≡ false → (after ts o).number ≡ 0
    off x = elim (after_less ts o) [
      | inl e ↦ ap nr e ∙ free_number
      | inr l ↦ sym l.number ∙ untaken_number nr o x
    ]

    on :
        a < o.number
        → Rising nr o.number (taken nr (map (after ts) os))
        → (after ts o ≡ free) ⊎ Less o (after ts o)
        → Rising nr a (taken nr (after ts o ∷ map (after ts) os))
    on h more (inl e) =
        rw (keep_false (is_taken nr) (after ts o) (map (after ts) os) (not_taken nr (after ts o) (ap nr e ∙ free_number)))
        (rising_from nr a o.number (taken nr (map (after ts) os)) (omega arith) more)
    on h more (inr l) =
        rw (keep_true (is_taken nr) (after ts o) (map (after ts) os) (is_taken_lem nr (after ts o) (λ z. omega (arith, l.number))))
        (omega (arith, l.number), rw (sym l.number) more)

    go :
        (b : Bool)
        → is_taken nr o ≡ b
        → (Rising nr a (taken nr os) → Rising nr a (taken nr (map (after ts) os)))
        → (Rising nr o.number (taken nr os) → Rising nr o.number (taken nr (map (after ts) os)))
        → Rising nr a (taken nr (after ts o ∷ map (after ts) os))
    go true x same more =
        let h : Rising nr a (o ∷ taken nr os) = rw (keep_true (is_taken nr) o os x) at r in on h.0 (more h.1) (after_less ts o)
    go false x same more =
        rw (keep_false (is_taken nr) (after ts o) (map (after ts) os) (not_taken nr (after ts o) (off x)))
        (same (rw (keep_false (is_taken nr) o os x) at r))

-- ---- lined up

pub lined_length : (n : ℕ) (os : List Order) → length (lined n os) ≡ n
unfolding lined
lined_length n os = places_length nr free free_number n os

pub lined_places : (book os : List Order) → has_places book ≡ true → has_places (lined (length book) os) ≡ true
unfolding has_places
lined_places book os h = rw (lined_length (length book) os) h

pub lined_each : (P : Order → Type 0) (n : ℕ) (os : List Order) → P free → Each P os → Each P (lined n os)
unfolding lined
lined_each P n os z e = places_each nr free free_number P n os z e

pub lined_arrives : (n : ℕ) (os : List Order) → Rising nr 0 (taken nr os) → in_arrival nr (lined n os) ≡ true
unfolding lined
lined_arrives n os r = places_arrive nr free free_number n os r

-- what they add up to, where free places add nothing
pub taken_total : (f : Order → ℕ) (os : List Order) → Each (λ o. o.number ≡ 0 → f o ≡ 0) os → total f (taken nr os) ≡ total f os
taken_total f [] e = unfold keep in refl
taken_total f (o ∷ os) e = go (is_taken nr o) refl (taken_total f os e.1)
  where
    go : (b : Bool) → is_taken nr o ≡ b → total f (taken nr os) ≡ total f os → total f (taken nr (o ∷ os)) ≡ total f (o ∷ os)
    go true x h = rw (keep_true (is_taken nr) o os x) (unfold total in omega arith)
    go false x h = rw (keep_false (is_taken nr) o os x) (unfold total in omega (arith, e.0 (untaken_number nr o x)))

-- who stands on a side
pub taken_side : (side : ℕ) (os : List Order) → keep (stands_on side) (taken nr os) ≡ keep (stands_on side) os
unfolding stands_on is_live is_taken
taken_side side os =
    keep_keep (stands_on side) (is_taken nr) os ∙ keep_same (λ o. is_taken nr o && stands_on side o) (stands_on side) os
    (every (λ (o : Order). is_taken nr o && stands_on side o ≡ stands_on side o) os (λ o. again (is_live o) (eqb o.side side)))
  where
    again : (a b : Bool) → a && (a && b) ≡ a && b
    again true b = refl
    again false b = refl

module _ (n : ℕ) (os : List Order) (fit : orders os ≤ n) where
  fits : length (taken nr os) ≤ n
  fits = omega (arith, ap length (live_taken os))

  pub lined_total : (f : Order → ℕ) → f free ≡ 0 → Each (λ o. o.number ≡ 0 → f o ≡ 0) os → total f (lined n os) ≡ total f os
  unfolding lined
  lined_total f z e = places_total nr free free_number n os fits f z ∙ taken_total f os e

  pub lined_side : (side : ℕ) → keep (stands_on side) (lined n os) ≡ keep (stands_on side) os
  unfolding lined
  lined_side side =
      let spare : List Order = replicate (n - length (taken nr os)) free in
      ap (keep (stands_on side)) (places_fit nr free free_number n os fits)
      ∙ keep_append (stands_on side) (taken nr os) spare
      ∙ ap (λ (l : List Order). keep (stands_on side) (taken nr os) ++ l) (keep_frees side (n - length (taken nr os)))
      ∙ append-nil (keep (stands_on side) (taken nr os))
      ∙ taken_side side os
