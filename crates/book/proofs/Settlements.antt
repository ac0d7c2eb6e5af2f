-- What trades fill of an order, one after the other, and what they leave of it.
use Prim.Native.Nat.{ℕ, ◌+◌, ◌-◌, ◌≤◌, ◌<◌}
use mathlib.Core.Path.{◌≡◌, refl, sym, ap, ◌∙◌}
use mathlib.Core.Bool.{Bool, true, false, cond}
use mathlib.Core.List.{List, [], ◌∷◌}
use native.Mathlib.Decide.{ℕ_discrete}
use native.Mathlib.Omega.{arith}
use borrow.Author.Tests.{lt-ltb, le-ltb}
use Rattle.model.specs.declared.Order.{Order}
use Rattle.model.specs.declared.Trade.{Trade}
use Rattle.model.specs.Lists.{keep, total}
use Rattle.model.specs.Book.{free}
use Rattle.model.specs.Matching.{is_in, filled, filled_of, less_by, settle}
use Rattle.model.specs.Words.{Each}
use Rattle.book.specs.Standing.{Fair}

-- ---- what trades fill, in all and of an order number

pub filled_nil : filled [] ≡ 0
unfolding filled total
filled_nil = refl

pub filled_more : (r : Trade) (ts : List Trade) → filled (r ∷ ts) ≡ r.quantity + filled ts
unfolding filled total
filled_more r ts = refl

pub filled_none : (n : ℕ) → filled_of n [] ≡ 0
unfolding filled_of filled keep total
filled_none n = refl

-- one trade
unfoldable pub part : ℕ → Trade → ℕ
part n t = cond (is_in n t) t.quantity 0

pub filled_cons : (n : ℕ) (t : Trade) (ts : List Trade) → filled_of n (t ∷ ts) ≡ part n t + filled_of n ts
unfolding filled_of filled keep total part
filled_cons n t ts = go (is_in n t)
  where
    go :
        (b : Bool)
        → total (λ (x : Trade). x.quantity) (cond b (t ∷ keep (is_in n) ts) (keep (is_in n) ts))
        ≡ cond b t.quantity 0 + total (λ (x : Trade). x.quantity) (keep (is_in n) ts)
    go true = refl
    go false = omega arith

-- ---- the order then

pub less_gone : (q left : ℕ) (o p : Order) → left ≡ o.left - q → left ≡ 0 → p ≡ free → p ≡ less_by q o
unfolding less_by
less_gone q left o p e z f =
    let l : o.left ≤ q = omega arith in
    rw (le-ltb q o.left l) f

pub less_some :
    (q left : ℕ) (o : Order)
    → left ≡ o.left - q
    → (left ≡ 0 → ⊥)
    → ◌≡◌ {A = Order}
    (record { side = o.side; account = o.account; left = left; price = o.price; number = o.number })
    (less_by q o)
unfolding less_by
less_some q left o e n =
    let l : q < o.left = omega arith in
    rw (lt-ltb q o.left l, e)

-- ---- no trades change nothing

pub less_nothing : (o : Order) → Fair o → less_by 0 o ≡ o
less_nothing o f = elim (ℕ_discrete o.left 0) [
  | yes z ↦ sym (less_gone 0 o.left o o (omega arith) z (f.none (gone z)))
  | no n ↦ sym (less_some 0 o.left o (omega arith) n)
]
  where
    gone : o.left ≡ 0 → o.number ≡ 0
    gone z = elim (ℕ_discrete o.number 0) [
      | yes y ↦ y
      | no y ↦ absurd (omega (arith, f.some y))
    ]

pub settle_none : (book : List Order) → Each Fair book → settle [] book ≡ book
unfolding settle
settle_none [] f = refl
settle_none (o ∷ os) f =
    let h : less_by (filled_of o.number []) o ≡ o =
    ap (λ (q : ℕ). less_by q o) (filled_none o.number) ∙ less_nothing o f.0 in
    let t : settle [] os ≡ os = settle_none os f.1 in
    cc
