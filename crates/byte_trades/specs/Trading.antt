-- An order and a move of the clock as one call.
use Rattle.std.specs.Prelude.{ℕ, ◌≡◌, List}
use Rattle.model.specs.declared.Order.{Order}
use Rattle.model.specs.declared.Trade.{Trade}
use Rattle.model.specs.declared.Day.{Day}
use Rattle.model.specs.declared.OrderReply as OrderReply
use Rattle.model.specs.declared.OrderAnswer.{OrderAnswer}
use Rattle.model.specs.declared.ClockReply as ClockReply
use Rattle.model.specs.declared.ClockAnswer.{ClockAnswer}
use Rattle.model.specs.Calls as calls
use Rattle.model.specs.ClockCall.{clock_call}
use Rattle.records.specs.Layout.{day_in, book_in, book_bytes, trades_in, trades_bytes, over}
use Rattle.byte_trades.specs.declared.TradeAsked as TradeAsked
use Rattle.byte_trades.specs.declared.TradeReply as TradeReply
use Rattle.byte_trades.specs.declared.TradeAnswer.{TradeAnswer}

unfoldable pub trade_refusal : TradeAsked.TradeAsked → ℕ → TradeReply.TradeReply
trade_refusal (TradeAsked.TheVariants.Order a) n = TradeReply.TheVariants.Order (OrderReply.TheVariants.Refused n)
trade_refusal (TradeAsked.TheVariants.Clock t) n = TradeReply.TheVariants.Clock (ClockReply.TheVariants.Refused n)

-- what either hands back, as the same kind of answer
abbrev pub ordered : OrderAnswer → TradeAnswer
ordered r = record { reply = TradeReply.TheVariants.Order r.reply; made = r.made; day = r.day }

abbrev pub clocked : ClockAnswer → TradeAnswer
clocked r = record { reply = TradeReply.TheVariants.Clock r.reply; made = r.made; day = r.day }

abbrev pub handed : {A B : Type 0} → (A → B) → calls.Outcome A → calls.Outcome B
handed f o = record { answer = f o.answer; book = o.book; trades = o.trades }

unfoldable pub trade_call : Day → TradeAsked.TradeAsked → List Order → List Trade → calls.Outcome TradeAnswer
trade_call d (TradeAsked.TheVariants.Order a) book lent = handed ordered (calls.order_call d a book lent)
trade_call d (TradeAsked.TheVariants.Clock t) book lent = handed clocked (clock_call d t book lent)

-- ---- on bytes

abbrev pub trade_on : List ℕ → List ℕ → List ℕ → TradeAsked.TradeAsked → calls.Outcome TradeAnswer
trade_on day book trades asked = trade_call (day_in day) asked (book_in book) (trades_in trades)

-- what a call has answered and left of the bytes of book and trade list: those of an outcome
pub record Traded (o : calls.Outcome TradeAnswer) (book trades : List ℕ) (r : TradeAnswer) (left list : List ℕ) : Type 0 where
  pub told : r ≡ o.answer
  pub places : left ≡ over (book_bytes o.book) book
  pub written : list ≡ over (trades_bytes o.trades) trades
