-- Demand 2, one accepted order: its quantity may be asked for, its shares add up, and nothing is beyond its limit.
use Rattle.std.specs.Prelude.{ℕ, suc, ◌+◌, ◌≤◌, ◌≡◌, true, List, map, length, take, eqb, if◌then◌else◌}
use Rattle.model.specs.declared.Order.{Order}
use Rattle.model.specs.declared.Asked.{Asked}
use Rattle.model.specs.declared.Trade.{Trade}
use Rattle.model.specs.declared.Entry.{Entry}
use Rattle.model.specs.declared.Day.{Day}
use Rattle.model.specs.declared.OrderReply as OrderReply
use Rattle.model.specs.declared.OrderAnswer.{OrderAnswer}
use Rattle.model.specs.Book.{stands_on, other, arranged}
use Rattle.model.specs.Matching.{meets, filled, levels, settle}
use Rattle.model.specs.Entry.{opposite, entry_trades, rest_price}
use Rattle.model.specs.Replies.{resting_of, withdrawn_of}
use Rattle.model.specs.Calls.{Outcome, written, joined, order_call}
use Rattle.model.specs.Words.{Each, Some, Sized}

-- filled, resting and withdrawn add up to the quantity; filled and levels are those of the trades; kinds 3 and 4 have at
-- most five levels
pub record AddsUp (a : Asked) (e : Entry) (ts : List Trade) : Type 0 where
  pub whole : e.filled + resting_of e.remainder + withdrawn_of e.remainder ≡ a.quantity
  pub shares : e.filled ≡ filled ts
  pub prices : e.levels ≡ levels ts
  pub five : 3 ≤ a.kind → e.levels ≤ 5

-- a trade with a resting order of the other side: at its price, for no more than it has, with its number and the order's own
pub record With (a : Asked) (number : ℕ) (t : Trade) (o : Order) : Type 0 where
  pub opposite : stands_on (other a.side) o ≡ true
  pub price : t.price ≡ o.price
  pub quantity : t.quantity ≤ o.left
  pub buyer : t.buyer ≡ (if eqb a.side 0 then number else o.number)
  pub seller : t.seller ≡ (if eqb a.side 0 then o.number else number)

-- no buy trades or rests above its limit, no sell below; what rests does so at the price of `rest_price`, among what the trades
-- leave of the others, in priority
pub record WithinLimit (a : Asked) (e : Entry) (ts : List Trade) (book after : List Order) : Type 0 where
  pub partners : Each (λ (t : Trade). Some (With a e.number t) book) ts
  pub trades : Each (λ (t : Trade). meets a.side a.price t.price ≡ true) ts
  pub rests : (resting_of e.remainder ≡ 0 → ⊥) → meets a.side a.price (rest_price a ts book) ≡ true
  pub book_after :
      after
      ≡ arranged (length book)
      (joined a e.number (resting_of e.remainder) (rest_price a ts book) (settle ts book))

-- the fills follow priority: it trades with the first of those that it may trade with, one after the other
abbrev pub InPriority : Asked → List Order → List Trade → Type 0
InPriority a book ts =
    map (λ (t : Trade). if eqb a.side 0 then t.seller else t.buyer) ts
    ≡ take (length ts) (map (λ (o : Order). o.number) (opposite a book))

-- for every accepted order, from any day and book
pub record Accepted (d : Day) (a : Asked) (book : List Order) (lent : List Trade) (e : Entry) (o : Outcome OrderAnswer) : Type 0 where
  pub sized : Sized a.side a.quantity a.balance
  pub number : e.number ≡ suc d.issued
  pub made : o.answer.made ≡ length (entry_trades d a book)
  pub trades : o.trades ≡ written (entry_trades d a book) lent
  pub adds_up : AddsUp a e (entry_trades d a book)
  pub within_limit : WithinLimit a e (entry_trades d a book) book o.book
  pub in_priority : InPriority a book (entry_trades d a book)

pub record Entering : Type 0 where
  pub accepted :
      (d : Day) (a : Asked) (book : List Order) (lent : List Trade) (e : Entry)
      → (order_call d a book lent).answer.reply ≡ OrderReply.TheVariants.Accepted e
      → Accepted d a book lent e (order_call d a book lent)
