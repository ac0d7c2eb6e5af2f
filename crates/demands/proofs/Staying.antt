-- An order that no trade names stays as it is: after an order, and after a move of the clock before the close.
-- Assumes nothing.
use Prim.Native.Nat.{ℕ, zero, suc, ◌+◌, ◌-◌, ◌≤◌, ◌<◌}
use mathlib.Core.Path.{◌≡◌, refl, ap, ◌∙◌}
use mathlib.Core.Logic.{inr, ⊎_elim}
use mathlib.Core.Bool.{Bool, true, false, cond, ◌||◌}
use mathlib.Core.List.{List, [], ◌∷◌}
use native.Mathlib.Nat.{le_of_suc-le-suc, not-suc-le-zero}
use native.Mathlib.Omega.{arith}
use lib.ListN.{length, get_or, take, drop}
use lib.Seq.{take_at}
use lib.Dec.{eqb}
use Rattle.model.specs.declared.Order.{Order}
use Rattle.model.specs.declared.Asked.{Asked}
use Rattle.model.specs.declared.Trade.{Trade}
use Rattle.model.specs.declared.Day.{Day}
use Rattle.model.specs.Lists.{total}
use Rattle.model.specs.Book.{free, queue, arranged}
use Rattle.model.specs.Matching.{filled, is_in, filled_of, less_by, settle}
use Rattle.model.specs.Figures.{next_number}
use Rattle.model.specs.Entry.{entry_trades, rest_price}
use Rattle.model.specs.Calls.{written, joined, entered, order_call}
use Rattle.model.specs.ClockCall.{auction_trades, start, moved, clock_call}
use Rattle.model.specs.Words.{Each, Some, Sound}
use Rattle.book.specs.Standing.{Fair, Standing}
use Rattle.book.proofs.Lists.{keep_none, each_at}
use Rattle.book.proofs.Kept.{standing_settle}
use Rattle.book.proofs.Settlements.{less_nothing}
use Rattle.matching.proofs.EntryLaws.{remainder, orders_then}
use Rattle.pairing.proofs.Auctions.{settled_fit}
use Rattle.demands.specs.Owning.{Stays}
use Rattle.demands.proofs.Elements.{some_map, some_at}
use Rattle.demands.proofs.Places.{stands_once}
use Rattle.demands.proofs.Arranged.{stands_there}
use Rattle.demands.proofs.Cases.{order_cases, clock_cases}
use Rattle.demands.proofs.Pricings.{sound_stands}
use Rattle.demands.proofs.Settled.{settle_length}
use Rattle.demands.proofs.Entered.{Allowed, allowed, orders_stand, orders_fit}
use Rattle.demands.proofs.Moved.{in_time}
use Rattle.demands.proofs.OneAuction.{up_to_close}

-- ---- trades that do not name it

filled_none : (n : ℕ) (ts : List Trade) → Each (λ (t : Trade). is_in n t ≡ false) ts → filled_of n ts ≡ 0
unfolding filled_of filled total
filled_none n ts h = rw (keep_none (is_in n) ts h)

settle_at :
    (ts : List Trade) (book : List Order) (i : ℕ)
    → i < length book
    → get_or (settle ts book) i free ≡ less_by (filled_of (get_or book i free).number ts) (get_or book i free)
unfolding settle
settle_at ts [] i l = absurd (not-suc-le-zero l)
settle_at ts (o ∷ os) zero l = refl
settle_at ts (o ∷ os) (suc i) l = settle_at ts os i (le_of_suc-le-suc l)

-- what the trades leave of an order is among what they leave
pub settle_has :
    (ts : List Trade) (book : List Order) (i : ℕ) (x : Order)
    → i < length book
    → less_by (filled_of (get_or book i free).number ts) (get_or book i free) ≡ x
    → Some (λ (p : Order). p ≡ x) (settle ts book)
settle_has ts book i x l e =
    some_map (λ p h. h ∙ settle_at ts book i l ∙ e) (settle ts book)
    (some_at (settle ts book) free i (omega (arith, l, settle_length ts book)))

module _ (ts : List Trade) (book : List Order) where
  -- an order that no trade names is one of these
  abbrev StillAmong : List Order → Type 0
  StillAmong os =
      (i : ℕ)
      → i < length book
      → ((get_or book i free).number ≡ 0 → ⊥)
      → Each (λ (t : Trade). is_in (get_or book i free).number t ≡ false) ts
      → Some (λ (p : Order). p ≡ get_or book i free) os

  pub none_moves : Standing book → Stays ts book book
  none_moves s i l n h = stands_once book s.apart (get_or book i free) n (some_at book free i l)

  settle_stays : Standing book → StillAmong (settle ts book)
  settle_stays s i l n h =
      let o = get_or book i free in
      settle_has ts book i o l
      (ap (λ (q : ℕ). less_by q o) (filled_none o.number ts h) ∙ less_nothing o (each_at Fair book free s.fair i l))

  arranged_stays :
      (n : ℕ) (os : List Order)
      → Standing os
      → length (queue 0 os) + length (queue 1 os) ≤ n
      → StillAmong os
      → Stays ts book (arranged n os)
  arranged_stays n os s fit k i l live h = stands_there n os s fit (get_or book i free) live (k i l live h)

-- ---- an order

module _ (d : Day) (a : Asked) (book : List Order) (s : Sound d book) where
  abbrev ts : List Trade
  ts = entry_trades d a book

  orders_stay : StillAmong ts book (orders_then d a book (next_number d))
  unfolding joined
  orders_stay i l n h = go (eqb (a.quantity - filled ts) 0 || eqb (rest_price a ts book) 0)
    where
      still : Some (λ (p : Order). p ≡ get_or book i free) (settle ts book)
      still = settle_stays ts book (sound_stands d book s) i l n h

      go : (b : Bool) → Some (λ (p : Order). p ≡ get_or book i free) (cond b (settle ts book) (remainder d a book (next_number d) ∷ settle ts book))
      go true = still
      go false = inr still

  entered_stays : Allowed d a book → Stays ts book (arranged (length book) (orders_then d a book (next_number d)))
  entered_stays k =
      arranged_stays ts book (length book) (orders_then d a book (next_number d)) (orders_stand d a book s k) (orders_fit d a book s k)
      orders_stay

  pub order_stays :
      (lent : List Trade)
      → Stays (take (order_call d a book lent).answer.made (order_call d a book lent).trades) book (order_call d a book lent).book
  unfolding entered written
  order_stays lent =
      order_cases d a book lent (λ o. Stays (take o.answer.made o.trades) book o.book)
      (λ z. rw (take_at ts (drop (length ts) lent) (length ts) refl) (entered_stays (allowed d a book lent z)))
      (λ _. none_moves [] book (sound_stands d book s))

-- ---- a move of the clock: up to the close one auction at most has trades

module _ (d : Day) (t : ℕ) (book : List Order) (s : Standing book) where
  moved_stays : d.time ≤ t → t < 54_000 → Stays (moved d t book).trades book (moved d t book).book
  unfolding start
  moved_stays l c =
      ⊎_elim (λ e. rw e (none_moves [] book s))
      (λ x.
      rw (x.orders, x.trades)
      (arranged_stays (auction_trades d book) book (length book) (settle (auction_trades d book) book)
      (standing_settle (auction_trades d book) book s) (settled_fit book s d)
      (settle_stays (auction_trades d book) book s)))
      (up_to_close d book s t l c)

  pub clock_stays :
      (lent : List Trade)
      → t < 54_000
      → Stays (take (clock_call d t book lent).answer.made (clock_call d t book lent).trades) book (clock_call d t book lent).book
  unfolding written
  clock_stays lent c =
      clock_cases d t book lent (λ o. Stays (take o.answer.made o.trades) book o.book)
      (λ z.
      rw (take_at (moved d t book).trades (drop (length (moved d t book).trades) lent) (length (moved d t book).trades) refl)
      (moved_stays (in_time d t book lent z).0 c))
      (λ _. none_moves [] book s)
