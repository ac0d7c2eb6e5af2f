-- Fixed-price trading after the close: by time alone, at the day's close, and nobody beyond his limit.
use Rattle.std.specs.Prelude.{ℕ, suc, ◌+◌, ◌-◌, ◌≤◌, ◌<◌, min, ◌≡◌, ◌⊎◌, true, false, not, ◌&&◌, List, [], ◌∷◌, ◌++◌, map, length, take, eqb, if◌then◌else◌}
use Rattle.model.specs.declared.Order.{Order}
use Rattle.model.specs.declared.AskedFixed.{AskedFixed}
use Rattle.model.specs.declared.Trade.{Trade}
use Rattle.model.specs.declared.Day.{Day}
use Rattle.model.specs.declared.Entry.{Entry}
use Rattle.model.specs.declared.OrderReply as OrderReply
use Rattle.model.specs.Lists.{keep, total}
use Rattle.model.specs.Clock.{matching_from, day_end}
use Rattle.model.specs.Book.{is_live, stands_on, other}
use Rattle.model.specs.Books.{Books}
use Rattle.model.specs.Matching.{filled, filled_of, settle}
use Rattle.model.specs.Figures.{close_price}
use Rattle.model.specs.FixedBook.{is_void, matches}
use Rattle.model.specs.Refusals.{unsound_fixed}
use Rattle.model.specs.Calls.{written}
use Rattle.model.specs.Replies.{resting_of, withdrawn_of}
use Rattle.model.specs.FixedCalls.{arriving, fixed_trades, fixed_call}
use Rattle.model.specs.ClockCall.{moved}
use Rattle.model.specs.AfterClose.{After}
use Rattle.model.specs.AllCalls.{moved_on}
use Rattle.model.specs.Words.{Each, Some, Sound}

-- ---- within both limits

-- a buy among these orders with the buyer's number may pay the close, and a sell with the seller's number may take it
pub record WithinLimits (close : ℕ) (os : List Order) (t : Trade) : Type 0 where
  pub price : t.price ≡ close
  pub buyer : Some (λ (o : Order). (o.number ≡ t.buyer) × (o.side ≡ 0) × (close ≤ o.price)) os
  pub seller : Some (λ (o : Order). (o.number ≡ t.seller) × (o.side ≡ 1) × (o.price ≤ close)) os

-- ---- an order

-- an order that comes in from 15:05 on trades with the first of the other side, one after the other
pub record ByTime (d : Day) (a : AskedFixed) (book : List Order) (ts : List Trade) : Type 0 where
  pub own : Each (λ (t : Trade). (if eqb a.side 0 then t.buyer else t.seller) ≡ suc d.fixed.issued) ts
  pub partners :
      map (λ (t : Trade). if eqb a.side 0 then t.seller else t.buyer) ts
      ≡ take (length ts) (map (λ (o : Order). o.number) (keep (stands_on (other a.side)) book))
  -- each but the last is filled whole, and it goes on until it is filled or nobody is left
  pub whole : Each (λ (t : Trade). (if eqb a.side 0 then t.sellerleft else t.buyerleft) ≡ 0) (take (length ts - 1) ts)
  pub in_all : filled ts ≡ min a.quantity (total (λ (o : Order). o.left) (keep (stands_on (other a.side)) book))
  -- each at the close, which is within both limits
  pub limits : Each (WithinLimits (close_price d) (arriving d a book)) ts

-- an accepted one
pub record Entered (d : Day) (a : AskedFixed) (main book : List Order) (lent : List Trade) (e : Entry) : Type 0 where
  pub number : e.number ≡ suc d.fixed.issued
  pub early : d.time < matching_from → fixed_trades d a book ≡ []
  pub late : matching_from ≤ d.time → ByTime d a book (fixed_trades d a book)
  pub trades : (fixed_call d a main book lent).trades ≡ written (fixed_trades d a book) lent
  pub shares : e.filled ≡ filled (fixed_trades d a book)
  pub adds_up : e.filled + resting_of e.remainder ≡ a.quantity
  pub none_withdrawn : withdrawn_of e.remainder ≡ 0
  pub one_price : e.levels ≤ 1

-- ---- 15:05

-- matching after each arrival: an order behind those that are left
unfoldable pub one_by_one : ℕ → List Order → List Order → List Trade
one_by_one close line [] = []
one_by_one close line (o ∷ os) =
    let come : List Order = line ++ (o ∷ []) in
    let ts : List Trade = matches close come in
    ts ++ one_by_one close (keep is_live (settle ts come)) os

-- a move over 15:05. The orders that are not void trade as if they came in then, one by one, in order of arrival; void are exactly
-- those that 20 names; afterwards one side is left at most.
pub record FivePast (close : ℕ) (book : List Order) (h : After) : Type 0 where
  pub one_by_one : h.fixed ≡ one_by_one close [] (keep (λ o. is_live o && not (is_void close o)) book)
  pub void : h.void ≡ total (λ (o : Order). o.left) (keep (is_void close) book)
  pub void_out : Each (λ o. is_void close o ≡ true → filled_of o.number h.fixed ≡ 0) book
  pub limits : Each (WithinLimits close book) h.fixed
  pub one_sided : (keep (stands_on 0) h.books.fixed ≡ []) ⊎ (keep (stands_on 1) h.books.fixed ≡ [])

pub record FixedPrice : Type 0 where
  pub entered :
      (d : Day) (a : AskedFixed) (main book : List Order) (lent : List Trade) (e : Entry)
      → (fixed_call d a main book lent).answer.reply ≡ OrderReply.TheVariants.Accepted e
      → Entered d a main book lent e
  pub five_past :
      (d : Day) (t : ℕ) (s : Books)
      → Sound d s.main
      → unsound_fixed d s.fixed ≡ false
      → d.time < matching_from
      → matching_from ≤ t
      → FivePast (close_price (moved d t s.main).day) s.fixed (moved_on d t s)
  -- 15:30: what is left lapses
  pub end :
      (d : Day) (t : ℕ) (s : Books)
      → unsound_fixed d s.fixed ≡ false
      → day_end ≤ t
      → Each (λ o. is_live o ≡ false) (moved_on d t s).books.fixed
