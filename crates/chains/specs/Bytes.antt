-- Chains of calls from C. The caller lends the slices of day and book again, and nobody else writes to them.
use Rattle.std.specs.Prelude.{ℕ, ◌≡◌, List}
use Rattle.model.specs.declared.Asked.{Asked}
use Rattle.model.specs.Replies.{open_numbers, order_numbers, cancel_numbers, clock_numbers, list_numbers}
use Rattle.model.specs.Session.{Desk}
use Rattle.demands.specs.Running.{moves_to, enters, cancels}
use Rattle.demands.specs.Histories as histories
use Rattle.demands.specs.Histories.{AnyCall, Happens, Seen, Opened, Moved, Entered, Cancelled, Reported, Listed, trades_then, prices_then}
use Rattle.demands.specs.Chains.{Gave, Door, Link, Chained, FromOpening}
use Rattle.records.specs.Layout.{AllBytes, Word, bytes, day_in, book_in, trades_in, trades_bytes, prices_in, over, returned, replied}
use Rattle.replies.specs.Words.{report_words}
use Rattle.wire.specs.Promises.{OpenPromise, ClockPromise, OrderPromise, CancelPromise, ReportPromise, ListPromise}

-- a slice of bytes
pub record Slice : Type 0 where
  pub bytes : List ℕ
  pub are : AllBytes bytes

pub record Memory : Type 0 where
  pub day : Slice
  pub book : Slice

-- a call, with the list and the reply buffer that it is lent. An account is a number of 64 bits, by its type.
pub data Asks : Type 0 where
  Clock : (time : ℕ) (trades reply : Slice) → Asks
  Order : (a : Asked) → Word a.account → (trades reply : Slice) → Asks
  Cancel : (account number : ℕ) (reply : Slice) → Asks
  Report : (reply : Slice) → Asks
  Prices : (asked : ℕ) (prices reply : Slice) → Asks

-- the number that a call returns, and its reply buffer then
pub record Reply : Type 0 where
  pub returns : ℕ
  pub buffer : Slice

abbrev pub Gives : Asks → Type 0
Gives (Clock time trades reply) = Gave Reply Slice
Gives (Order a w trades reply) = Gave Reply Slice
Gives (Cancel account number reply) = Reply
Gives (Report reply) = Reply
Gives (Prices asked prices reply) = Gave Reply Slice

-- the call's own promise; what it only reads stays
abbrev pub Promise : (a : Asks) → Memory → Gives a → Memory → Type 0
Promise (Clock time trades reply) m g n =
    ClockPromise m.day.bytes m.book.bytes trades.bytes reply.bytes time g.answer.returns n.day.bytes n.book.bytes
    g.list.bytes
    g.answer.buffer.bytes
Promise (Order a w trades reply) m g n =
    OrderPromise m.day.bytes m.book.bytes trades.bytes reply.bytes a g.answer.returns n.day.bytes n.book.bytes
    g.list.bytes
    g.answer.buffer.bytes
Promise (Cancel account number reply) m g n =
    CancelPromise m.day.bytes m.book.bytes reply.bytes account number g.returns n.day.bytes n.book.bytes g.buffer.bytes
Promise (Report reply) m g n =
    ReportPromise m.day.bytes m.book.bytes reply.bytes g.returns g.buffer.bytes
    × (n.day.bytes ≡ m.day.bytes)
    × (n.book.bytes ≡ m.book.bytes)
Promise (Prices asked prices reply) m g n =
    ListPromise m.day.bytes m.book.bytes prices.bytes reply.bytes asked g.answer.returns g.list.bytes
    g.answer.buffer.bytes
    × (n.day.bytes ≡ m.day.bytes)
    × (n.book.bytes ≡ m.book.bytes)

abbrev pub call : Asks → AnyCall
call (Clock time trades reply) = Happens (moves_to time (trades_in trades.bytes))
call (Order a w trades reply) = Happens (enters a (trades_in trades.bytes))
call (Cancel account number reply) = Happens (cancels account number)
call (Report reply) = histories.Reports
call (Prices asked prices reply) = histories.Lists asked (prices_in prices.bytes)

-- the numbers of the reply that is seen
unfoldable pub numbers_in : Seen → List ℕ
numbers_in (Opened r) = open_numbers r
numbers_in (Moved r made trades) = clock_numbers r
numbers_in (Entered r made trades) = order_numbers r
numbers_in (Cancelled r) = cancel_numbers r
numbers_in (Reported r) = report_words r
numbers_in (Listed r prices) = list_numbers r

-- the refusal is returned, and the numbers stand in the buffer
pub record Answers (x : Seen) (reply : Slice) (g : Reply) : Type 0 where
  pub returns : g.returns ≡ returned (numbers_in x)
  pub buffer : g.buffer.bytes ≡ replied (numbers_in x) reply.bytes

abbrev pub Shows : (a : Asks) → Seen → Gives a → Type 0
Shows (Clock time trades reply) x g =
    Answers x reply g.answer × (g.list.bytes ≡ over (trades_bytes (trades_then x (trades_in trades.bytes))) trades.bytes)
Shows (Order a w trades reply) x g =
    Answers x reply g.answer × (g.list.bytes ≡ over (trades_bytes (trades_then x (trades_in trades.bytes))) trades.bytes)
Shows (Cancel account number reply) x g = Answers x reply g
Shows (Report reply) x g = Answers x reply g
Shows (Prices asked prices reply) x g =
    Answers x reply g.answer × (g.list.bytes ≡ over (bytes (prices_then x (prices_in prices.bytes))) prices.bytes)

abbrev pub desk_in : Memory → Desk
desk_in m = record { day = day_in m.day.bytes; book = book_in m.book.bytes }

abbrev pub door : Door
door =
    record { Memory = Memory; Asks = Asks; Gives = Gives; Promise = Promise; call = call; desk = desk_in; Shows = Shows }

-- an opening that returns 0, on any slices
pub record OpenedOn (m : Memory) : Type 0 where
  pub before : Memory
  pub close : ℕ
  pub mark : ℕ
  pub reply : Slice
  pub buffer : Slice
  pub promised :
      OpenPromise before.day.bytes before.book.bytes reply.bytes close mark 0 m.day.bytes m.book.bytes buffer.bytes

pub record ByteChains : Type 0 where
  pub chain : (m : Memory) → OpenedOn m → (ls : List (Link door)) → Chained door m ls → FromOpening door m ls
