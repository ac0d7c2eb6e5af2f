-- The trades of an order on entry: how much, at how many prices, with whom and within which limit; and the limit of its
-- rest.
use Rattle.std.specs.Prelude.{if◌then◌else◌}
use Prim.Native.Nat.{ℕ, ◌+◌, ◌-◌, ◌≤◌, min, max}
use mathlib.Core.Path.{◌≡◌, refl, sym, ap}
use mathlib.Core.Bool.{Bool, true, false, cond, not, ◌&&◌}
use mathlib.Core.List.{List, [], ◌∷◌}
use native.Mathlib.Omega.{arith}
use lib.ListN.{length}
use lib.Dec.{leb, eqb}
use borrow.Author.Tests.{eqb-false, le-leb, leb-true}
use Rattle.model.specs.declared.Order.{Order}
use Rattle.model.specs.declared.Asked.{Asked}
use Rattle.model.specs.declared.Trade.{Trade}
use Rattle.model.specs.declared.Taker.{Taker}
use Rattle.model.specs.declared.Day.{Day}
use Rattle.model.specs.Lists.{keep, total, among, once, different}
use Rattle.model.specs.Clock.{continuous}
use Rattle.model.specs.Halts.{phase_now}
use Rattle.model.specs.Book.{stands_on, queue, best, other}
use Rattle.model.specs.Matching.{meets, within, five_best, at_five_best, sweep, filled, filled_of, levels, last_price, settle}
use Rattle.model.specs.Figures.{next_number}
use Rattle.model.specs.Entry.{best_within, entry_price, opposite, entry_trades, rest_price}
use Rattle.model.specs.Calls.{joined}
use Rattle.model.specs.Words.{Each, Some}
use Rattle.book.specs.Standing.{Standing}
use Rattle.book.proofs.Lists.{each, every, each_keep, length_keep, total_zero}
use Rattle.book.proofs.Queues.{queue_length}
use Rattle.book.proofs.Best.{on_each}
use Rattle.book.proofs.Kept.{New}
use Rattle.book.proofs.Settlements.{filled_nil, filled_none}
use Rattle.book.proofs.Shares.{settle_total}
use Rattle.matching.specs.Sweeping.{at_best}
use Rattle.matching.specs.Settling.{SweptBy}
use Rattle.matching.proofs.Cuts.{five_best_lem}
use Rattle.matching.proofs.Partners.{sweep_spent}
use Rattle.matching.proofs.Trades.{some_each, Deal, each_trade, filled_within, count_within, levels_within}
use Rattle.matching.proofs.Fills.{shares_kept}
use Rattle.matching.proofs.Entries.{opposite_best}

-- ---- limits

-- what meets a price that meets a limit meets the limit
pub meets_through : (side l m p : ℕ) → meets side l m ≡ true → meets side m p ≡ true → meets side l p ≡ true
unfolding meets
meets_through side l m p e f = go (eqb side 0) e f
  where
    go :
        (b : Bool)
        → cond b (leb m l) (leb l m) ≡ true
        → cond b (leb p m) (leb m p) ≡ true
        → cond b (leb p l) (leb l p) ≡ true
    go true e f = le-leb p l (omega (arith, leb-true m l e, leb-true p m f))
    go false e f = le-leb l p (omega (arith, leb-true l m e, leb-true m p f))

meets_itself : (side l : ℕ) → meets side l l ≡ true
unfolding meets
meets_itself side l = go (eqb side 0)
  where
    go : (b : Bool) → cond b (leb l l) (leb l l) ≡ true
    go true = le-leb l l (omega arith)
    go false = le-leb l l (omega arith)

meets_within : (side l p : ℕ) → meets side l (within side l p) ≡ true
unfolding meets within
meets_within side l p = go (eqb side 0)
  where
    go : (b : Bool) → cond b (leb (cond b (min p l) (max p l)) l) (leb l (cond b (min p l) (max p l))) ≡ true
    go true = le-leb (min p l) l (omega arith)
    go false = le-leb l (max p l) (omega arith)

last_on : (P : ℕ → Type 0) (p : ℕ) (ts : List Trade) → P p → Each (λ r. P r.price) ts → P (last_price p ts)
unfolding last_price
last_on P p [] h e = h
last_on P p (r ∷ ts) h e = last_on P r.price ts e.0 e.1

-- what each trade's price has, the last one's has
pub last_has :
    (P : ℕ → Type 0) (p : ℕ) (ts : List Trade)
    → Each (λ r. P r.price) ts
    → (filled ts ≡ 0 → ⊥)
    → P (last_price p ts)
unfolding filled total last_price
last_has P p [] e n = absurd (n refl)
last_has P p (r ∷ ts) e n = last_on P r.price ts e.0 e.1

module _ (a : Asked) (book : List Order) where
  best_limit :
      (side : ℕ)
      → (best_within a side book ≡ 0 → ⊥)
      → meets a.side a.price (best_within a side book) ≡ true
  unfolding best_within
  best_limit side n = go (eqb (best side book) 0) n
    where
      go :
          (b : Bool)
          → (cond b 0 (within a.side a.price (best side book)) ≡ 0 → ⊥)
          → meets a.side a.price (cond b 0 (within a.side a.price (best side book))) ≡ true
      go true n = absurd (n refl)
      go false n = meets_within a.side a.price (best side book)

  -- an order enters within its limit
  pub entry_limit : (entry_price a book ≡ 0 → ⊥) → meets a.side a.price (entry_price a book) ≡ true
  unfolding entry_price
  entry_limit n = go (eqb a.kind 1) (eqb a.kind 2) n
    where
      go :
          (b c : Bool)
          → (cond b (best_within a (other a.side) book) (cond c (best_within a a.side book) a.price) ≡ 0 → ⊥)
          → meets a.side a.price
          (cond b (best_within a (other a.side) book) (cond c (best_within a a.side book) a.price))
          ≡ true
      go true c n = best_limit (other a.side) n
      go false true n = best_limit a.side n
      go false false n = meets_itself a.side a.price

  -- ---- whom it may trade with

  -- what each order of the other side has, each that it may trade with has
  pub of_opposite :
      (P : Order → Type 0) → Each (λ o. stands_on (other a.side) o ≡ true → P o) book → Each P (opposite a book)
  unfolding opposite at_five_best
  of_opposite P e = go (leb 3 a.kind) (on_each P (other a.side) book e)
    where
      go :
          (b : Bool)
          → Each P (queue (other a.side) book)
          → Each P
          (cond b
          (keep (λ o. among (five_best (queue (other a.side) book)) o.price) (queue (other a.side) book))
          (queue (other a.side) book))
      go true h =
          each_keep P (λ o. among (five_best (queue (other a.side) book)) o.price) (queue (other a.side) book)
          h
      go false h = h

  pub only_five : 3 ≤ a.kind → opposite a book ≡ at_best 5 (queue (other a.side) book)
  unfolding opposite
  only_five h = rw (le-leb 3 a.kind h) (sym (five_best_lem (queue (other a.side) book)))

  opposite_short : length (opposite a book) ≤ length (keep (stands_on (other a.side)) book)
  unfolding opposite at_five_best
  opposite_short = go (leb 3 a.kind)
    where
      go :
          (b : Bool)
          → length
          (cond b
          (keep (λ o. among (five_best (queue (other a.side) book)) o.price) (queue (other a.side) book))
          (queue (other a.side) book))
          ≤ length (keep (stands_on (other a.side)) book)
      go true =
          omega (
            arith,
            length_keep (λ o. among (five_best (queue (other a.side) book)) o.price)
                (queue (other a.side) book),
            queue_length (other a.side) book,
          )
      go false = omega (arith, queue_length (other a.side) book)

-- ---- the trades

module _ (d : Day) (a : Asked) (book : List Order) where
  abbrev pub taker : Taker
  taker = record { side = a.side; number = next_number d; limit = entry_price a book }

  -- what is left of it as it rests
  abbrev pub remainder : ℕ → Order
  remainder number =
      record {
        side = a.side;
        account = a.account;
        left = a.quantity - filled (entry_trades d a book);
        price = rest_price a (entry_trades d a book) book;
        number = number;
      }

  -- the orders afterwards, what rests of it among them
  abbrev pub orders_then : ℕ → List Order
  orders_then number =
      joined a number (a.quantity - filled (entry_trades d a book)) (rest_price a (entry_trades d a book) book)
      (settle (entry_trades d a book) book)

  -- there are none, or they are those of a sweep
  pub entry_cases :
      (P : List Trade → Type 0)
      → P []
      → ((entry_price a book ≡ 0 → ⊥) → P (sweep taker a.quantity (opposite a book)))
      → P (entry_trades d a book)
  unfolding entry_trades
  entry_cases P none some = go (eqb (phase_now d) continuous) (eqb (entry_price a book) 0) refl
    where
      go :
          (b c : Bool)
          → eqb (entry_price a book) 0 ≡ c
          → P (cond (b && not c) (sweep taker a.quantity (opposite a book)) [])
      go true true e = none
      go true false e = some (eqb-false (entry_price a book) 0 e)
      go false c e = none

  -- no more than the quantity
  pub entry_filled : filled (entry_trades d a book) ≤ a.quantity
  entry_filled =
      entry_cases (λ ts. filled ts ≤ a.quantity) (omega (arith, filled_nil))
      (λ n. filled_within taker a.quantity (opposite a book))

  pub entry_adds_up : filled (entry_trades d a book) + (a.quantity - filled (entry_trades d a book)) ≡ a.quantity
  entry_adds_up = omega (arith, entry_filled)

  -- at most one with each order of the other side, so no more than the book has places
  pub entry_few : length (entry_trades d a book) ≤ length book
  entry_few =
      entry_cases (λ ts. length ts ≤ length book) (omega arith)
      (λ n.
      omega (
        arith,
        count_within taker a.quantity (opposite a book),
        opposite_short a book,
        length_keep (stands_on (other a.side)) book,
      ))

  -- kinds 3 and 4 at no more than five prices
  pub entry_levels : 3 ≤ a.kind → levels (entry_trades d a book) ≤ 5
  entry_levels h =
      entry_cases (λ ts. levels ts ≤ 5) (unfold levels different once in omega arith)
      (λ n. rw (only_five a book h) (levels_within taker a.quantity 5 (queue (other a.side) book)))

  -- a fact of each trade, from each order of the other side
  pub each_entry :
      (P : Trade → Type 0)
      → Each (λ o. stands_on (other a.side) o ≡ true → (r : Trade) → Deal taker o r → P r) book
      → Each P (entry_trades d a book)
  each_entry P e =
      entry_cases (λ ts. Each P ts) tt
      (λ n.
      each_trade taker P a.quantity (opposite a book)
      (of_opposite a book (λ o. (r : Trade) → Deal taker o r → P r) e))

  -- each is with an order of the other side that rests in the book, at its price, and names its number
  pub entry_deals :
      Each (λ r. Some (λ o. Deal taker o r × (stands_on (other a.side) o ≡ true)) book) (entry_trades d a book)
  entry_deals =
      each_entry (λ r. Some (λ o. Deal taker o r × (stands_on (other a.side) o ≡ true)) book)
      (each
      (λ o.
      (r : Trade)
      → Deal taker o r × (stands_on (other a.side) o ≡ true)
      → Some (λ p. Deal taker p r × (stands_on (other a.side) p ≡ true)) book)
      (λ o. stands_on (other a.side) o
      ≡ true
      → (r : Trade)
      → Deal taker o r
      → Some (λ p. Deal taker p r × (stands_on (other a.side) p ≡ true)) book)
      book
      (λ o f t r h. f r (h, t))
      (some_each (λ (o : Order) (r : Trade). Deal taker o r × (stands_on (other a.side) o ≡ true)) book))

  -- none is beyond the protection limit
  pub entry_allowed : Each (λ r. meets a.side a.price r.price ≡ true) (entry_trades d a book)
  entry_allowed =
      entry_cases (λ ts. Each (λ r. meets a.side a.price r.price ≡ true) ts) tt
      (λ n.
      each_trade taker (λ r. meets a.side a.price r.price ≡ true) a.quantity (opposite a book)
      (every (λ (o : Order). (r : Trade) → Deal taker o r → meets a.side a.price r.price ≡ true) (opposite a book)
      (λ o r h. meets_through a.side a.price (entry_price a book) r.price (entry_limit a book n) h.allowed)))

  -- and neither is the rest
  pub rest_limit :
      (rest_price a (entry_trades d a book) book ≡ 0 → ⊥)
      → meets a.side a.price (rest_price a (entry_trades d a book) book) ≡ true
  unfolding rest_price
  rest_limit n = go (eqb a.kind 3) (eqb a.kind 4) (eqb (filled (entry_trades d a book)) 0) refl n
    where
      go :
          (b c e : Bool)
          → eqb (filled (entry_trades d a book)) 0 ≡ e
          →
          (cond b 0
          (cond c (cond e (best_within a a.side book) (last_price 0 (entry_trades d a book))) (entry_price a book))
          ≡ 0
          → ⊥)
          → meets a.side a.price
          (cond b 0
          (cond c (cond e (best_within a a.side book) (last_price 0 (entry_trades d a book))) (entry_price a book)))
          ≡ true
      go true c e f n = absurd (n refl)
      go false true true f n = best_limit a book a.side n
      go false true false f n =
          last_has (λ p. meets a.side a.price p ≡ true) 0 (entry_trades d a book) entry_allowed
          (eqb-false (filled (entry_trades d a book)) 0 f)
      go false false e f n = entry_limit a book n

  -- ---- what they fill, in a book that stands

  module _ (standing : Standing book) (new : New (next_number d) book) where
    -- at how many prices it may trade
    abbrev most : ℕ
    most = if leb 3 a.kind then 5 else length book

    -- what rests afterwards and what was traded are what rested before
    pub entry_shares :
        total (λ o. o.left) (settle (entry_trades d a book) book) + filled (entry_trades d a book)
        ≡ total (λ o. o.left) book
    entry_shares =
        entry_cases (λ ts. total (λ o. o.left) (settle ts book) + filled ts ≡ total (λ o. o.left) book)
        none
        (λ n.
        rw (opposite_best a book (length book) standing (omega arith))
        (shares_kept taker a.quantity most (other a.side) book standing new))
      where
        none : total (λ o. o.left) (settle [] book) + filled [] ≡ total (λ o. o.left) book
        none =
            omega (
              arith,
              settle_total [] book
                  (every (λ (o : Order). filled_of o.number [] ≤ o.left) book
                  (λ o. omega (arith, filled_none o.number))),
              total_zero (λ o. filled_of o.number []) book
                  (every (λ (o : Order). filled_of o.number [] ≡ 0) book (λ o. filled_none o.number)),
              filled_nil,
            )

    -- they are those of a sweep by an order with a number of its own
    pub entry_swept : SweptBy a.side (entry_trades d a book) book
    entry_swept =
        entry_cases (λ ts. SweptBy a.side ts book)
        (record {
          taker = taker;
          quantity = 0;
          prices = 0;
          its_side = refl;
          fresh = new.fresh;
          trades = sym (sweep_spent taker (at_best 0 (queue (other a.side) book)));
        })
        (λ n.
        record {
          taker = taker;
          quantity = a.quantity;
          prices = most;
          its_side = refl;
          fresh = new.fresh;
          trades = ap (sweep taker a.quantity) (opposite_best a book (length book) standing (omega arith));
        })
