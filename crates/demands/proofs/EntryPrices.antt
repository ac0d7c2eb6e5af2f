-- Whatever holds of an order's limit and of every resting price holds of the prices of its trades and of its rest; and an
-- order's trades are proper. Assumes nothing.
use Prim.Native.Nat.{ℕ, ◌-◌, ◌≤◌, ◌<◌, min, max}
use mathlib.Core.Path.{◌≡◌, refl}
use mathlib.Core.Bool.{Bool, true, false, cond, ◌&&◌}
use mathlib.Core.List.{List, [], ◌∷◌}
use native.Mathlib.Omega.{arith}
use lib.Dec.{leb, ltb, eqb}
use borrow.Author.Tests.{leb-true, leb-false, ltb-true, eqb-false}
use Rattle.model.specs.declared.Order.{Order}
use Rattle.model.specs.declared.Asked.{Asked}
use Rattle.model.specs.declared.Trade.{Trade}
use Rattle.model.specs.declared.Taker.{Taker}
use Rattle.model.specs.declared.Day.{Day}
use Rattle.model.specs.Lists.{total}
use Rattle.model.specs.Book.{stands_on, best, other}
use Rattle.model.specs.Matching.{meets, within, trade_with, sweep, filled, last_price}
use Rattle.model.specs.Entry.{best_within, entry_price, opposite, entry_trades, rest_price}
use Rattle.model.specs.Words.{Each, Price}
use Rattle.book.specs.Standing.{Fair}
use Rattle.book.proofs.Lists.{each}
use Rattle.book.proofs.Queues.{on_live}
use Rattle.book.proofs.Best.{on_each, best_has}
use Rattle.matching.proofs.Trades.{Deal}
use Rattle.matching.proofs.EntryLaws.{last_has, of_opposite, taker, entry_cases, each_entry}
use Rattle.demands.proofs.Tallied.{Proper}

-- ---- prices

module _ (P : ℕ → Type 0) where
  either_min : (p q : ℕ) → P p → P q → P (min p q)
  either_min p q x y = go (leb p q) refl
    where
      go : (b : Bool) → leb p q ≡ b → P (min p q)
      go true e = let h : p ≤ q = leb-true p q e in let z : min p q ≡ p = omega arith in rw z x
      go false e = let h : q < p = leb-false p q e in let z : min p q ≡ q = omega arith in rw z y

  either_max : (p q : ℕ) → P p → P q → P (max p q)
  either_max p q x y = go (leb p q) refl
    where
      go : (b : Bool) → leb p q ≡ b → P (max p q)
      go true e = let h : p ≤ q = leb-true p q e in let z : max p q ≡ q = omega arith in rw z y
      go false e = let h : q < p = leb-false p q e in let z : max p q ≡ p = omega arith in rw z x

module _ (P : ℕ → Type 0) (d : Day) (a : Asked) (book : List Order) (own : P a.price) (resting : Each (λ (o : Order). (o.number ≡ 0 → ⊥) → P o.price) book) where
  standing_has : (side : ℕ) → Each (λ (o : Order). stands_on side o ≡ true → P o.price) book
  standing_has side =
      each (λ (o : Order). (o.number ≡ 0 → ⊥) → P o.price) (λ (o : Order). stands_on side o ≡ true → P o.price) book
      (λ o h s. h (on_live side o s)) resting

  best_within_has : (side : ℕ) → (best_within a side book ≡ 0 → ⊥) → P (best_within a side book)
  unfolding best_within within
  best_within_has side = go (eqb (best side book) 0) refl (eqb a.side 0)
    where
      held : (best side book ≡ 0 → ⊥) → P (best side book)
      held = best_has side book P (on_each (λ (o : Order). P o.price) side book (standing_has side))

      go :
          (b : Bool)
          → eqb (best side book) 0 ≡ b
          → (c : Bool)
          → (cond b 0 (cond c (min (best side book) a.price) (max (best side book) a.price)) ≡ 0 → ⊥)
          → P (cond b 0 (cond c (min (best side book) a.price) (max (best side book) a.price)))
      go true e c n = absurd (n refl)
      go false e true n = either_min P (best side book) a.price (held (eqb-false (best side book) 0 e)) own
      go false e false n = either_max P (best side book) a.price (held (eqb-false (best side book) 0 e)) own

  entry_has : (entry_price a book ≡ 0 → ⊥) → P (entry_price a book)
  unfolding entry_price
  entry_has = go (eqb a.kind 1) (eqb a.kind 2)
    where
      go :
          (b c : Bool)
          → (cond b (best_within a (other a.side) book) (cond c (best_within a a.side book) a.price) ≡ 0 → ⊥)
          → P (cond b (best_within a (other a.side) book) (cond c (best_within a a.side book) a.price))
      go true c n = best_within_has (other a.side) n
      go false true n = best_within_has a.side n
      go false false n = own

  pub trades_have : Each (λ (r : Trade). P r.price) (entry_trades d a book)
  trades_have =
      each_entry d a book (λ r. P r.price)
      (each (λ (o : Order). stands_on (other a.side) o ≡ true → P o.price)
      (λ o. stands_on (other a.side) o ≡ true → (r : Trade) → Deal (taker d a book) o r → P r.price) book
      (λ o h s r k. rw k.price (h s)) (standing_has (other a.side)))

  pub rest_has : (rest_price a (entry_trades d a book) book ≡ 0 → ⊥) → P (rest_price a (entry_trades d a book) book)
  unfolding rest_price
  rest_has = go (eqb a.kind 3) (eqb a.kind 4) (eqb (filled (entry_trades d a book)) 0) refl
    where
      go :
          (b c e : Bool)
          → eqb (filled (entry_trades d a book)) 0 ≡ e
          → (cond b 0 (cond c (cond e (best_within a a.side book) (last_price 0 (entry_trades d a book))) (entry_price a book)) ≡ 0 → ⊥)
          → P (cond b 0 (cond c (cond e (best_within a a.side book) (last_price 0 (entry_trades d a book))) (entry_price a book)))
      go true c e f n = absurd (n refl)
      go false true true f n = best_within_has a.side n
      go false true false f n = last_has P 0 (entry_trades d a book) trades_have (eqb-false (filled (entry_trades d a book)) 0 f)
      go false false e f n = entry_has n

-- ---- each trade is for at least one share

sweep_some :
    (t : Taker) (q : ℕ) (os : List Order)
    → Each (λ (o : Order). 1 ≤ o.left) os
    → Each (λ (r : Trade). 1 ≤ r.quantity) (sweep t q os)
unfolding sweep
sweep_some t q [] h = tt
sweep_some t q (o ∷ os) h = go (ltb 0 q) refl (meets t.side t.limit o.price) (sweep_some t (q - o.left) os h.1)
  where
    one : 0 < q → 1 ≤ (trade_with t q o).quantity
    one l = unfold trade_with in omega (arith, h.0)

    go :
        (b : Bool)
        → ltb 0 q ≡ b
        → (c : Bool)
        → Each (λ (r : Trade). 1 ≤ r.quantity) (sweep t (q - o.left) os)
        → Each (λ (r : Trade). 1 ≤ r.quantity) (cond (b && c) (trade_with t q o ∷ sweep t (q - o.left) os) [])
    go true e true k = (one (ltb-true 0 q e), k)
    go true e false k = tt
    go false e c k = tt

none_filled : (ts : List Trade) → Each (λ (r : Trade). 1 ≤ r.quantity) ts → filled ts ≡ 0 → ts ≡ []
unfolding filled total
none_filled [] h z = refl
none_filled (t ∷ ts) h z = absurd (omega (arith, h.0))

module _ (d : Day) (a : Asked) (book : List Order) (fair : Each Fair book) where
  entry_some : Each (λ (r : Trade). 1 ≤ r.quantity) (entry_trades d a book)
  entry_some =
      entry_cases d a book (Each (λ (r : Trade). 1 ≤ r.quantity)) tt
      (λ n.
      sweep_some (taker d a book) a.quantity (opposite a book)
      (of_opposite a book (λ o. 1 ≤ o.left)
      (each Fair (λ o. stands_on (other a.side) o ≡ true → 1 ≤ o.left) book (λ o f s. f.some (on_live (other a.side) o s)) fair)))

  pub entry_proper : Each (λ (r : Trade). Price r.price) (entry_trades d a book) → Proper (entry_trades d a book)
  entry_proper p = record { priced = p; some = none_filled (entry_trades d a book) entry_some }
