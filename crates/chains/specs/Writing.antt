-- What a call from C that returns 0 has written: an order, a move of the clock, and a price list. Demands 2 and 3 speak of the trades and
-- prices of the definitions' calls; these are what stands in the slices, whatever day and book they hold.
use Rattle.std.specs.Prelude.{ℕ, ◌≡◌}
use Rattle.model.specs.declared.Asked.{Asked}
use Rattle.model.specs.declared.Entry.{Entry}
use Rattle.model.specs.declared.OrderReply as OrderReply
use Rattle.model.specs.declared.ClockReply as ClockReply
use Rattle.model.specs.Calls.{order_call}
use Rattle.model.specs.ClockCall.{clock_call}
use Rattle.model.specs.AuctionCalls.{list_call}
use Rattle.model.specs.Words.{Sound}
use Rattle.demands.specs.Entering.{Accepted}
use Rattle.demands.specs.Pricing.{Listing, Called, ClockTrades}
use Rattle.records.specs.Layout.{bytes, day_in, book_in, trades_in, trades_bytes, prices_in, over}
use Rattle.wire.specs.Promises.{Bytes, ClockPromise, OrderPromise, ListPromise}

-- an order that is accepted: its number, trades and rest are those of demand 2
pub record OrderWrote (day book trades trades' : Bytes) (a : Asked) : Type 0 where
  pub sound : Sound (day_in day) (book_in book)
  pub entry : Entry
  pub reply : (order_call (day_in day) a (book_in book) (trades_in trades)).answer.reply ≡ OrderReply.TheVariants.Accepted entry
  pub accepted : Accepted (day_in day) a (book_in book) (trades_in trades) entry (order_call (day_in day) a (book_in book) (trades_in trades))
  pub trades_bytes : trades' ≡ over (trades_bytes (order_call (day_in day) a (book_in book) (trades_in trades)).trades) trades

-- a move that is accepted: the trades that it writes are those of demand 3's auctions
pub record ClockWrote (day book trades trades' : Bytes) (time : ℕ) : Type 0 where
  pub sound : Sound (day_in day) (book_in book)
  pub phase : ℕ
  pub made : ℕ
  pub reply : (clock_call (day_in day) time (book_in book) (trades_in trades)).answer.reply ≡ ClockReply.TheVariants.Moved phase made
  pub auctions : ClockTrades (day_in day) time (book_in book) (trades_in trades)
  pub trades_bytes : trades' ≡ over (trades_bytes (clock_call (day_in day) time (book_in book) (trades_in trades)).trades) trades

-- a price list that is told: every price that meets the conditions, from the asked one on, and no other
pub record ListWrote (day book prices prices' : Bytes) (asked : ℕ) : Type 0 where
  pub sound : Sound (day_in day) (book_in book)
  pub listing : Listing (book_in book)
  pub called : Called (day_in day) (book_in book) asked (prices_in prices)
  pub prices_bytes : prices' ≡ over (bytes (list_call (day_in day) asked (book_in book) (prices_in prices)).prices) prices

pub record Writing : Type 0 where
  pub order :
      (day book trades reply day' book' trades' reply' : Bytes) (a : Asked)
      → OrderPromise day book trades reply a 0 day' book' trades' reply'
      → OrderWrote day book trades trades' a
  pub clock :
      (day book trades reply day' book' trades' reply' : Bytes) (time : ℕ)
      → ClockPromise day book trades reply time 0 day' book' trades' reply'
      → ClockWrote day book trades trades' time
  pub list :
      (day book prices reply prices' reply' : Bytes) (asked : ℕ)
      → ListPromise day book prices reply asked 0 prices' reply'
      → ListWrote day book prices prices' asked
