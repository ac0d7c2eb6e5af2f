-- Shares: what trades fill is what the book has less afterwards.
use Prim.Native.Nat.{ℕ, ◌+◌, ◌-◌, ◌≤◌}
use mathlib.Core.Path.{◌≡◌, refl, sym, ◌∙◌}
use mathlib.Core.Bool.{Bool, true, false, cond, ◌||◌}
use mathlib.Core.List.{List, [], ◌∷◌}
use native.Mathlib.Omega.{arith}
use lib.Dec.{ltb, eqb}
use borrow.Author.Tests.{eq-eqb, ne_eqb, eqb-true, eqb-false, ltb-true, ltb-false}
use Rattle.model.specs.declared.Order.{Order}
use Rattle.model.specs.declared.Trade.{Trade}
use Rattle.model.specs.Lists.{total}
use Rattle.model.specs.Book.{free}
use Rattle.model.specs.Matching.{is_in, filled_of, less_by, settle}
use Rattle.model.specs.Words.{Each, Apart}
use Rattle.book.proofs.Lists.{both, each, every, total_same, total_add, total_zero}
use Rattle.book.proofs.Settlements.{part, filled_none, filled_cons}
use Rattle.book.proofs.Kept.{free_left}

-- ---- by number

-- what g says of each order with the number n, added up
unfoldable pub of_number : ℕ → (Order → ℕ) → List Order → ℕ
of_number n g os = total (λ o. cond (eqb o.number n) (g o) 0) os

pub of_none : (n : ℕ) (g : Order → ℕ) (os : List Order) → Each (λ o. o.number ≡ n → ⊥) os → of_number n g os ≡ 0
unfolding of_number
of_none n g os e =
    total_zero (λ o. cond (eqb o.number n) (g o) 0) os
    (each (λ o. o.number ≡ n → ⊥) (λ o. cond (eqb o.number n) (g o) 0 ≡ 0) os (λ o h. rw (ne_eqb o.number n h))
    e)

pub of_cons :
    (n : ℕ) (g : Order → ℕ) (o : Order) (os : List Order)
    → of_number n g (o ∷ os) ≡ cond (eqb o.number n) (g o) 0 + of_number n g os
unfolding of_number total
of_cons n g o os = refl

-- an order, where it is live, is the only one with its number
abbrev pub Only : List Order → Order → Type 0
Only book o = (o.number ≡ 0 → ⊥) → (g : Order → ℕ) → of_number o.number g book ≡ g o

pub each_only : (book : List Order) → Apart book → Each (Only book) book
each_only [] a = tt
each_only (o ∷ os) a = (
  λ n g.
      let none : of_number o.number g os ≡ 0 =
      of_none o.number g os
      (each (λ p. p.number ≡ o.number → o.number ≡ 0) (λ p. p.number ≡ o.number → ⊥) os (λ p f e. n (f e)) a.0)
      in
      let one : cond (eqb o.number o.number) (g o) 0 ≡ g o = rw (eq-eqb o.number o.number refl) in
      omega (arith, of_cons o.number g o os),
  both (λ p. p.number ≡ o.number → o.number ≡ 0) (Only os) (Only (o ∷ os)) os
      (λ p f h n g.
      let other : o.number ≡ p.number → ⊥ = λ e. n (sym e ∙ f (sym e)) in
      let zero : cond (eqb o.number p.number) (g o) 0 ≡ 0 = rw (ne_eqb o.number p.number other) in
      omega (arith, of_cons p.number g o os, h n g))
      a.0
      (each_only os a.1),
)

-- ---- what trades fill, over the book

-- of one trade, what its two parties have in the book
abbrev pub stake : List Order → Trade → ℕ
stake book r = of_number r.buyer (λ o. r.quantity) book + of_number r.seller (λ o. r.quantity) book

part_both :
    (r : Trade) (n : ℕ)
    → (r.buyer ≡ r.seller → ⊥)
    → part n r ≡ cond (eqb n r.buyer) r.quantity 0 + cond (eqb n r.seller) r.quantity 0
unfolding part is_in
part_both r n apart = go (eqb r.buyer n) refl (eqb r.seller n) refl
  where
    go :
        (a : Bool)
        → eqb r.buyer n ≡ a
        → (b : Bool)
        → eqb r.seller n ≡ b
        → cond (a || b) r.quantity 0
        ≡ cond (eqb n r.buyer) r.quantity 0 + cond (eqb n r.seller) r.quantity 0
    go true e b f =
        let x : r.buyer ≡ n = eqb-true r.buyer n e in
        let y : n ≡ r.seller → ⊥ = λ z. apart (x ∙ z) in
        rw (eq-eqb n r.buyer (sym x), ne_eqb n r.seller y) (omega arith)
    go false e true f =
        let x : n ≡ r.buyer → ⊥ = λ z. eqb-false r.buyer n e (sym z) in
        let y : r.seller ≡ n = eqb-true r.seller n f in
        rw (ne_eqb n r.buyer x, eq-eqb n r.seller (sym y)) (omega arith)
    go false e false f =
        let x : n ≡ r.buyer → ⊥ = λ z. eqb-false r.buyer n e (sym z) in
        let y : n ≡ r.seller → ⊥ = λ z. eqb-false r.seller n f (sym z) in
        rw (ne_eqb n r.buyer x, ne_eqb n r.seller y)

one_trade_lem :
    (r : Trade) (book : List Order)
    → (r.buyer ≡ r.seller → ⊥)
    → total (λ o. part o.number r) book ≡ stake book r
unfolding of_number
one_trade_lem r book apart =
    total_same (λ o. part o.number r)
    (λ o. cond (eqb o.number r.buyer) r.quantity 0 + cond (eqb o.number r.seller) r.quantity 0) book
    (every
    (λ (o : Order).
    part o.number r
    ≡ cond (eqb o.number r.buyer) r.quantity 0 + cond (eqb o.number r.seller) r.quantity 0)
    book (λ o. part_both r o.number apart))
    ∙ total_add (λ o. cond (eqb o.number r.buyer) r.quantity 0)
    (λ o. cond (eqb o.number r.seller) r.quantity 0)
    book

-- what trades between different parties fill of the book's orders is what their parties have in it
pub filled_stakes :
    (ts : List Trade) (book : List Order)
    → Each (λ r. r.buyer ≡ r.seller → ⊥) ts
    → total (λ o. filled_of o.number ts) book ≡ total (stake book) ts
unfolding total
filled_stakes [] book e =
    total_zero (λ o. filled_of o.number []) book
    (every (λ (o : Order). filled_of o.number [] ≡ 0) book (λ o. filled_none o.number))
filled_stakes (r ∷ ts) book e =
    total_same (λ o. filled_of o.number (r ∷ ts)) (λ o. part o.number r + filled_of o.number ts) book
    (every (λ (o : Order). filled_of o.number (r ∷ ts) ≡ part o.number r + filled_of o.number ts) book
    (λ o. filled_cons o.number r ts))
    ∙ total_add (λ o. part o.number r) (λ o. filled_of o.number ts) book
    ∙ omega (arith, one_trade_lem r book e.0, filled_stakes ts book e.1)

-- ---- the book after trades

pub less_left : (q : ℕ) (o : Order) → q ≤ o.left → (less_by q o).left + q ≡ o.left
unfolding less_by
less_left q o h = go (ltb q o.left) refl
  where
    go :
        (b : Bool)
        → ltb q o.left ≡ b
        → (cond b
        (record { side = o.side; account = o.account; left = o.left - q; price = o.price; number = o.number })
        free
        ).left
        + q
        ≡ o.left
    go true e = omega (arith, ltb-true q o.left e)
    go false e = omega (arith, ltb-false q o.left e, free_left)

-- where no order is filled beyond what it has, the book has less by what the trades fill
pub settle_total :
    (ts : List Trade) (book : List Order)
    → Each (λ o. filled_of o.number ts ≤ o.left) book
    → total (λ o. o.left) (settle ts book) + total (λ o. filled_of o.number ts) book ≡ total (λ o. o.left) book
unfolding settle total
settle_total ts [] e = refl
settle_total ts (o ∷ os) e = omega (arith, less_left (filled_of o.number ts) o e.0, settle_total ts os e.1)
