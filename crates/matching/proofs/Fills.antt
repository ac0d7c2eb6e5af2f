-- What a sweep fills: no order beyond what it has, and of the book in all what its trades come to.
use Prim.Native.Nat.{ℕ, ◌+◌, ◌-◌, ◌≤◌}
use mathlib.Core.Path.{◌≡◌, refl, sym, ap, ◌∙◌}
use mathlib.Core.Bool.{Bool, true, false, cond, ◌||◌, or-false}
use mathlib.Core.List.{List, [], ◌∷◌, map}
use native.Mathlib.Omega.{arith}
use lib.ListN.{take}
use lib.Dec.{eqb}
use borrow.Author.Tests.{ne_eqb, eqb-true, eqb-false}
use Rattle.model.specs.declared.Order.{Order}
use Rattle.model.specs.declared.Trade.{Trade}
use Rattle.model.specs.declared.Taker.{Taker}
use Rattle.model.specs.Lists.{keep, total, among, once}
use Rattle.model.specs.Book.{stands_on, queue}
use Rattle.model.specs.Matching.{trade_with, sweep, is_in, filled, filled_of, settle}
use Rattle.model.specs.Words.{Each}
use Rattle.book.specs.Standing.{Standing}
use Rattle.book.proofs.Lists.{both, each, each_keep, kept, total_same, total_keep}
use Rattle.book.proofs.Queues.{each_queue, on_live, total_queue}
use Rattle.book.proofs.Kept.{New}
use Rattle.book.proofs.Settlements.{part, filled_none, filled_cons}
use Rattle.book.proofs.Shares.{of_number, of_none, of_cons, Only, each_only, stake, filled_stakes, settle_total}
use Rattle.matching.specs.Sweeping.{wants, at_best}
use Rattle.matching.proofs.Partners.{sweep_nil, sweep_cons}
use Rattle.matching.proofs.Trades.{Deal, each_trade}

-- the shares of the orders with the number n
abbrev held : ℕ → List Order → ℕ
held n os = of_number n (λ (o : Order). o.left) os

module _ (t : Taker) where
  -- a trade with o is o's, of all numbers but the taker's own
  pub is_with : (q n : ℕ) (o : Order) → (n ≡ t.number → ⊥) → is_in n (trade_with t q o) ≡ eqb o.number n
  unfolding is_in trade_with
  is_with q n o h = go (eqb t.side 0)
    where
      mine : eqb t.number n ≡ false
      mine = ne_eqb t.number n (λ e. h (sym e))

      go :
          (b : Bool)
          → eqb (cond b t.number o.number) n || eqb (cond b o.number t.number) n ≡ eqb o.number n
      go true = rw mine
      go false = rw mine (or-false (eqb o.number n))

  part_held :
      (q n : ℕ) (o : Order)
      → (n ≡ t.number → ⊥)
      → part n (trade_with t q o) ≤ cond (eqb o.number n) o.left 0
  unfolding part
  part_held q n o h = rw (is_with q n o h) (go (eqb o.number n))
    where
      go : (b : Bool) → cond b (trade_with t q o).quantity 0 ≤ cond b o.left 0
      go true = unfold trade_with in omega arith
      go false = omega arith

  fills_held : (q n : ℕ) (os : List Order) → (n ≡ t.number → ⊥) → filled_of n (sweep t q os) ≤ held n os
  fills_held q n [] h = rw (sweep_nil t q) (omega (arith, filled_none n))
  fills_held q n (o ∷ os) h =
      rw (sweep_cons t q o os) (go (wants t q o.price) (fills_held (q - o.left) n os h))
    where
      go :
          (w : Bool)
          → filled_of n (sweep t (q - o.left) os) ≤ held n os
          → filled_of n (cond w (trade_with t q o ∷ sweep t (q - o.left) os) []) ≤ held n (o ∷ os)
      go true i =
          omega (
            arith,
            filled_cons n (trade_with t q o) (sweep t (q - o.left) os),
            part_held q n o h,
            of_cons n (λ (x : Order). x.left) o os,
          )
      go false i = omega (arith, filled_none n)

  -- a number that none of them has
  pub fills_none :
      (q n : ℕ) (os : List Order)
      → (n ≡ t.number → ⊥)
      → Each (λ o. o.number ≡ n → ⊥) os
      → filled_of n (sweep t q os) ≡ 0
  fills_none q n os h e = omega (arith, fills_held q n os h, of_none n (λ (o : Order). o.left) os e)

-- ---- in a book that stands, for a taker whose number no order of it has

module _ (t : Taker) (q n side : ℕ) (book : List Order) (standing : Standing book) (new : New t.number book) where
  -- the orders that it may meet
  abbrev met : List Order
  met = at_best n (queue side book)

  -- what each order of the book that stands on the side has, each that may be met has
  of_met : (P : Order → Type 0) → Each P book → Each (λ o. P o × (stands_on side o ≡ true)) met
  unfolding at_best
  of_met P e =
      each_keep (λ o. P o × (stands_on side o ≡ true))
      (λ o. among (take n (once (map (λ o. o.price) (queue side book)))) o.price)
      (queue side book)
      (each_queue (λ o. P o × (stands_on side o ≡ true)) side book
      (both P (λ o. stands_on side o ≡ true) (λ o. P o × (stands_on side o ≡ true)) (keep (stands_on side) book) (λ o a b. (a, b))
      (each_keep P (stands_on side) book e)
      (kept (stands_on side) book)))

  held_met : (m : ℕ) → held m met ≤ held m book
  unfolding at_best of_number
  held_met m =
      let f : Order → ℕ = λ o. cond (eqb o.number m) o.left 0 in
      omega (
        arith,
        total_keep f (λ o. among (take n (once (map (λ o. o.price) (queue side book)))) o.price) (queue side book),
        total_queue f side book,
        total_keep f (stands_on side) book,
      )

  live_met : Each (λ o. o.number ≡ 0 → ⊥) met
  live_met =
      each (λ o. Only book o × (stands_on side o ≡ true)) (λ o. o.number ≡ 0 → ⊥) met (λ o h. on_live side o h.1)
      (of_met (Only book) (each_only book standing.apart))

  -- no order is filled beyond what it has
  pub fills_within : Each (λ o. filled_of o.number (sweep t q met) ≤ o.left) book
  fills_within =
      both (Only book) (λ o. o.number ≡ t.number → ⊥) (λ o. filled_of o.number (sweep t q met) ≤ o.left) book
      (λ o f g. pick o f g (eqb o.number 0) refl)
      (each_only book standing.apart)
      new.fresh
    where
      pick :
          (o : Order)
          → Only book o
          → (o.number ≡ t.number → ⊥)
          → (b : Bool)
          → eqb o.number 0 ≡ b
          → filled_of o.number (sweep t q met) ≤ o.left
      pick o f g true e =
          let z : held o.number met ≡ 0 =
          ap (λ (m : ℕ). held m met) (eqb-true o.number 0 e) ∙ of_none 0 (λ (x : Order). x.left) met live_met
          in
          omega (arith, fills_held t q o.number met g)
      pick o f g false e =
          omega (
            arith,
            fills_held t q o.number met g,
            held_met o.number,
            f (eqb-false o.number 0 e) (λ (x : Order). x.left),
          )

  -- a trade is between the taker, who has nothing in the book, and one order of it
  pub stakes : Each (λ r. (r.buyer ≡ r.seller → ⊥) × (stake book r ≡ r.quantity)) (sweep t q met)
  stakes =
      each_trade t (λ r. (r.buyer ≡ r.seller → ⊥) × (stake book r ≡ r.quantity)) q met
      (each (λ o. (Only book o × (o.number ≡ t.number → ⊥)) × (stands_on side o ≡ true))
      (λ o. (r : Trade) → Deal t o r → (r.buyer ≡ r.seller → ⊥) × (stake book r ≡ r.quantity)) met
      (λ o h r d. one o r (h.0.0 (on_live side o h.1) (λ x. r.quantity)) h.0.1 d)
      (of_met (λ o. Only book o × (o.number ≡ t.number → ⊥))
      (both (Only book) (λ o. o.number ≡ t.number → ⊥) (λ o. Only book o × (o.number ≡ t.number → ⊥)) book (λ o a b. (a, b))
      (each_only book standing.apart)
      new.fresh)))
    where
      none : (r : Trade) → of_number t.number (λ (x : Order). r.quantity) book ≡ 0
      none r = of_none t.number (λ (x : Order). r.quantity) book new.fresh

      one :
          (o : Order) (r : Trade)
          → of_number o.number (λ x. r.quantity) book ≡ r.quantity
          → (o.number ≡ t.number → ⊥)
          → Deal t o r
          → (r.buyer ≡ r.seller → ⊥) × (stake book r ≡ r.quantity)
      one o r h m d = go (eqb t.side 0) d.buyer d.seller
        where
          go :
              (b : Bool)
              → r.buyer ≡ cond b t.number o.number
              → r.seller ≡ cond b o.number t.number
              → (r.buyer ≡ r.seller → ⊥) × (stake book r ≡ r.quantity)
          go true x y = (λ e. m (sym y ∙ sym e ∙ x), rw (x, y) (omega (arith, h, none r)))
          go false x y = (λ e. m (sym x ∙ e ∙ y), rw (x, y) (omega (arith, h, none r)))

  -- what rests afterwards and what was traded are what rested before
  pub shares_kept :
      total (λ o. o.left) (settle (sweep t q met) book) + filled (sweep t q met) ≡ total (λ o. o.left) book
  unfolding filled
  shares_kept =
      let ts : List Trade = sweep t q met in
      let both_parts : Each (λ r. (r.buyer ≡ r.seller → ⊥) × (stake book r ≡ r.quantity)) ts = stakes in
      omega (
        arith,
        settle_total ts book fills_within,
        filled_stakes ts book
            (each (λ r. (r.buyer ≡ r.seller → ⊥) × (stake book r ≡ r.quantity)) (λ r. r.buyer ≡ r.seller → ⊥) ts
            (λ r h. h.0) both_parts),
        total_same (stake book) (λ r. r.quantity) ts
            (each (λ r. (r.buyer ≡ r.seller → ⊥) × (stake book r ≡ r.quantity)) (λ r. stake book r ≡ r.quantity)
            ts (λ r h. h.1) both_parts),
      )
