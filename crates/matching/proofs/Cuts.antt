-- The orders at the n best prices of a queue, taken one after the other: the queue is cut where the next price would begin.
use Prim.Native.Nat.{ℕ, zero, suc, ◌+◌, ◌*◌, ◌≤◌, ◌<◌}
use mathlib.Core.Path.{◌≡◌, refl, sym, ap, ◌∙◌}
use mathlib.Core.Bool.{Bool, true, false, cond, not}
use mathlib.Core.List.{List, [], ◌∷◌, map}
use native.Mathlib.Omega.{arith}
use native.Mathlib.Nat.{not-suc-le-zero, le_of_suc-le-suc}
use lib.ListN.{length, take}
use lib.Dec.{eqb}
use borrow.Author.Tests.{eq-eqb, ne_eqb, eqb-true, eqb-false}
use Rattle.model.specs.declared.Order.{Order}
use Rattle.model.specs.Lists.{keep, among, once}
use Rattle.model.specs.Book.{stands_on, queue}
use Rattle.model.specs.Matching.{five_best, at_five_best}
use Rattle.model.specs.Words.{Each}
use Rattle.book.specs.Standing.{Standing}
use Rattle.book.specs.Priority.{rank, key}
use Rattle.book.proofs.Lists.{keep_true, keep_none, keep_same, every, length_keep}
use Rattle.book.proofs.Sorting.{Rising}
use Rattle.book.proofs.Queues.{Stands, key_on, rank_apart, queue_rising, queue_stands, queue_length}
use Rattle.matching.specs.Sweeping.{at_best}
use Rattle.matching.proofs.Prices.{once_again, once_new, among_here, among_later, among_none}

-- ---- the cut

-- the orders at the price p that come first, and those at the next n prices
unfoldable pub cut_same : ℕ → ℕ → List Order → List Order
cut_same n p [] = []
cut_same zero p (o ∷ os) = cond (eqb o.price p) (o ∷ cut_same zero p os) []
cut_same (suc n) p (o ∷ os) = cond (eqb o.price p) (o ∷ cut_same (suc n) p os) (o ∷ cut_same n o.price os)

-- those at the first n prices
unfoldable pub cut_levels : ℕ → List Order → List Order
cut_levels zero os = []
cut_levels (suc n) [] = []
cut_levels (suc n) (o ∷ os) = o ∷ cut_same n o.price os

pub same_nil : (n p : ℕ) → cut_same n p [] ≡ []
unfolding cut_same
same_nil n p = refl

pub levels_none : (os : List Order) → cut_levels 0 os ≡ []
unfolding cut_levels
levels_none os = refl

pub levels_nil : (n : ℕ) → cut_levels n [] ≡ []
unfolding cut_levels
levels_nil zero = refl
levels_nil (suc n) = refl

pub levels_cons : (n : ℕ) (o : Order) (os : List Order) → cut_levels (suc n) (o ∷ os) ≡ o ∷ cut_same n o.price os
unfolding cut_levels
levels_cons n o os = refl

-- an order at the price that goes on
pub cut_here : (n p : ℕ) (o : Order) (os : List Order) → o.price ≡ p → cut_same n p (o ∷ os) ≡ o ∷ cut_same n p os
unfolding cut_same
cut_here zero p o os e = rw (eq-eqb o.price p e)
cut_here (suc n) p o os e = rw (eq-eqb o.price p e)

-- an order at another price
pub cut_away :
    (n p : ℕ) (o : Order) (os : List Order)
    → (o.price ≡ p → ⊥)
    → cut_same n p (o ∷ os) ≡ cut_levels n (o ∷ os)
unfolding cut_same cut_levels
cut_away zero p o os e = rw (ne_eqb o.price p e)
cut_away (suc n) p o os e = rw (ne_eqb o.price p e)

-- before the first price no order goes on at one
pub cut_from :
    (n : ℕ) (os : List Order) → Each (λ (o : Order). o.price ≡ 0 → ⊥) os → cut_same n 0 os ≡ cut_levels n os
cut_from n [] e = same_nil n 0 ∙ sym (levels_nil n)
cut_from n (o ∷ os) e = cut_away n 0 o os e.0

-- ---- prices that never get better

-- the ranks of a side never fall, from a on
abbrev pub Worsens : ℕ → ℕ → List ℕ → Type 0
Worsens side a [] = Unit {0}
Worsens side a (p ∷ ps) = (a ≤ rank side p) × (p ≤ 999_999) × Worsens side (rank side p) ps

abbrev pub prices_of : List Order → List ℕ
prices_of os = map (λ (o : Order). o.price) os

worsens :
    (side a b : ℕ) (q : List Order)
    → a * 1_000_000 ≤ b
    → Rising key b q
    → Each (Stands side) q
    → Worsens side a (prices_of q)
worsens side a b [] h r f = tt
worsens side a b (o ∷ os) h r f =
    let k : key o ≡ rank side o.price * 1_000_000 + o.number = key_on side o f.0.1 in
    let next : b < key o = r.0 in
    let small : o.number ≤ 999_999 = f.0.0.number in
    let l : a ≤ rank side o.price = omega arith in
    (l, f.0.0.price, worsens side (rank side o.price) (key o) os (omega arith) r.1 f.1)

pub queue_worsens : (side : ℕ) (book : List Order) → Standing book → Worsens side 0 (prices_of (queue side book))
queue_worsens side book s =
    worsens side 0 0 (queue side book) (omega arith) (queue_rising side book s) (queue_stands side book s.fair)

-- a price that another has followed does not come again
pub no_return : (side p a : ℕ) (ps : List ℕ) → rank side p < a → Worsens side a ps → Each (λ r. r ≡ p → ⊥) ps
no_return side p a [] h w = tt
no_return side p a (r ∷ ps) h w = (
  λ e. let same : rank side r ≡ rank side p = ap (rank side) e in omega (arith, w.0),
  no_return side p (rank side r) ps (omega (arith, w.0)) w.2,
)

-- a worse price
pub worse :
    (side p r : ℕ)
    → p ≤ 999_999
    → r ≤ 999_999
    → rank side p ≤ rank side r
    → (r ≡ p → ⊥)
    → rank side p < rank side r
worse side p r hp hr l n =
    let far : rank side p ≡ rank side r → ⊥ = λ e. n (sym (rank_apart side p r hp hr e)) in
    omega arith

-- ---- the cut takes the orders at the best prices

-- those of the list that stand at one of the prices
abbrev at_prices : List ℕ → List Order → List Order
at_prices ps os = keep (λ (o : Order). among ps o.price) os

-- a price that none of them has makes no difference
drop_price :
    (p : ℕ) (ps : List ℕ) (os : List Order)
    → Each (λ r. r ≡ p → ⊥) (prices_of os)
    → at_prices (p ∷ ps) os ≡ at_prices ps os
drop_price p ps os n =
    keep_same (λ (o : Order). among (p ∷ ps) o.price) (λ (o : Order). among ps o.price) os (go os n)
  where
    go :
        (xs : List Order)
        → Each (λ r. r ≡ p → ⊥) (prices_of xs)
        → Each (λ (o : Order). among (p ∷ ps) o.price ≡ among ps o.price) xs
    go [] e = tt
    go (x ∷ xs) e = (among_later p x.price ps e.0, go xs e.1)

-- the first of the different prices is in
first_in : (p r n : ℕ) (ps : List ℕ) → r ≡ p → among (take (suc n) (once (p ∷ ps))) r ≡ true
unfolding once
first_in p r n ps e = among_here p r (take n (keep (λ y. not (eqb p y)) (once ps))) e

-- the next price begins with o
best_from :
    (n : ℕ) (o : Order) (os : List Order)
    → ((m : ℕ) → cut_same m o.price os ≡ at_prices (take (suc m) (once (prices_of (o ∷ os)))) os)
    → cut_levels n (o ∷ os) ≡ at_prices (take n (once (prices_of (o ∷ os)))) (o ∷ os)
best_from zero o os rest =
    levels_none (o ∷ os)
    ∙ sym
    (keep_none (λ (x : Order). among [] x.price) (o ∷ os)
    (every (λ (x : Order). among [] x.price ≡ false) (o ∷ os) (λ x. among_none x.price)))
best_from (suc m) o os rest =
    levels_cons m o os
    ∙ ap (λ (l : List Order). o ∷ l) (rest m)
    ∙ sym
    (keep_true (λ (x : Order). among (take (suc m) (once (prices_of (o ∷ os)))) x.price) o os
    (first_in o.price o.price m (prices_of os) refl))

same_best :
    (side n p : ℕ) (os : List Order)
    → p ≤ 999_999
    → Worsens side (rank side p) (prices_of os)
    → cut_same n p os ≡ at_prices (take (suc n) (once (p ∷ prices_of os))) os
same_best side n p [] hp w = unfold keep cut_same in refl
same_best side n p (o ∷ os) hp w =
    go (eqb o.price p) refl (same_best side n p os hp) (λ m. same_best side m o.price os w.1 w.2)
  where
    go :
        (b : Bool)
        → eqb o.price p ≡ b
        →
        (Worsens side (rank side p) (prices_of os)
        → cut_same n p os ≡ at_prices (take (suc n) (once (p ∷ prices_of os))) os)
        → ((m : ℕ) → cut_same m o.price os ≡ at_prices (take (suc m) (once (o.price ∷ prices_of os))) os)
        → cut_same n p (o ∷ os) ≡ at_prices (take (suc n) (once (p ∷ o.price ∷ prices_of os))) (o ∷ os)
    go true f same new =
        let e : o.price ≡ p = eqb-true o.price p f in
        let from : Worsens side (rank side p) (prices_of os) = rw (sym e) w.2 in
        cut_here n p o os e
        ∙ ap (λ (l : List Order). o ∷ l) (same from)
        ∙ sym
        (ap (λ (l : List ℕ). at_prices (take (suc n) l) (o ∷ os)) (once_again p o.price (prices_of os) e)
        ∙ keep_true (λ (x : Order). among (take (suc n) (once (p ∷ prices_of os))) x.price) o os
        (first_in p o.price n (prices_of os) e))
    go false f same new =
        let away : o.price ≡ p → ⊥ = eqb-false o.price p f in
        let far : rank side p < rank side o.price = worse side p o.price hp w.1 w.0 away in
        let others : Each (λ r. r ≡ p → ⊥) (prices_of (o ∷ os)) =
        (away, no_return side p (rank side o.price) (prices_of os) far w.2)
        in
        cut_away n p o os away
        ∙ best_from n o os new
        ∙ sym
        (ap (λ (l : List ℕ). at_prices (take (suc n) l) (o ∷ os)) (once_new p (prices_of (o ∷ os)) others)
        ∙ drop_price p (take n (once (prices_of (o ∷ os)))) (o ∷ os) others)

pub cut_best : (side a n : ℕ) (os : List Order) → Worsens side a (prices_of os) → cut_levels n os ≡ at_best n os
unfolding at_best
cut_best side a n [] w = levels_nil n ∙ unfold keep in refl
cut_best side a n (o ∷ os) w = best_from n o os (λ m. same_best side m o.price os w.1 w.2)

-- ---- how much is cut

pub five_best_lem : (os : List Order) → at_best 5 os ≡ at_five_best os
unfolding at_best at_five_best five_best
five_best_lem os = refl

-- as many prices as orders: nothing is cut
cut_same_all : (n p : ℕ) (os : List Order) → length os ≤ n → cut_same n p os ≡ os
unfolding cut_same
cut_same_all n p [] h = refl
cut_same_all zero p (o ∷ os) h = absurd (not-suc-le-zero h)
cut_same_all (suc n) p (o ∷ os) h =
    go (eqb o.price p) (cut_same_all (suc n) p os (omega arith)) (cut_same_all n o.price os (le_of_suc-le-suc h))
  where
    go :
        (b : Bool)
        → cut_same (suc n) p os ≡ os
        → cut_same n o.price os ≡ os
        → cond b (o ∷ cut_same (suc n) p os) (o ∷ cut_same n o.price os) ≡ o ∷ os
    go true x y = ap (λ (l : List Order). o ∷ l) x
    go false x y = ap (λ (l : List Order). o ∷ l) y

cut_all : (n : ℕ) (os : List Order) → length os ≤ n → cut_levels n os ≡ os
unfolding cut_levels
cut_all zero [] h = refl
cut_all zero (o ∷ os) h = absurd (not-suc-le-zero h)
cut_all (suc n) [] h = refl
cut_all (suc n) (o ∷ os) h = ap (λ (l : List Order). o ∷ l) (cut_same_all n o.price os (le_of_suc-le-suc h))

-- as many prices as the book has places: nothing is cut
pub unbounded :
    (side n : ℕ) (book : List Order) → Standing book → length book ≤ n → at_best n (queue side book) ≡ queue side book
unbounded side n book s h =
    let short : length (queue side book) ≤ n = omega (arith, queue_length side book, length_keep (stands_on side) book) in
    sym (cut_best side 0 n (queue side book) (queue_worsens side book s)) ∙ cut_all n (queue side book) short
