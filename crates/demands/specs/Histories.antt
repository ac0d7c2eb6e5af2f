-- Histories: calls of any kind one after the other on an open day, and what is seen of each. They are told of any engine, that is of any
-- five calls, so that two can be compared; `present` is the definitions' own.
use Rattle.std.specs.Prelude.{ℕ, List, [], ◌∷◌}
use Rattle.model.specs.declared.Order.{Order}
use Rattle.model.specs.declared.Asked.{Asked}
use Rattle.model.specs.declared.Trade.{Trade}
use Rattle.model.specs.declared.Day.{Day}
use Rattle.model.specs.declared.Event as Event
use Rattle.model.specs.declared.OpenReply as OpenReply
use Rattle.model.specs.declared.OrderReply as OrderReply
use Rattle.model.specs.declared.OrderAnswer.{OrderAnswer}
use Rattle.model.specs.declared.CancelReply as CancelReply
use Rattle.model.specs.declared.ClockReply as ClockReply
use Rattle.model.specs.declared.ClockAnswer.{ClockAnswer}
use Rattle.model.specs.declared.ReportReply as ReportReply
use Rattle.model.specs.declared.ListReply as ListReply
use Rattle.model.specs.Calls.{Outcome, CancelOutcome, open_call, order_call, cancel_call}
use Rattle.model.specs.ClockCall.{clock_call}
use Rattle.model.specs.AuctionCalls.{ListOutcome, report_call, list_call}
use Rattle.model.specs.Session.{Desk}
use Rattle.demands.specs.Running.{Call, reopened}

-- the five calls that follow an opening
pub record Engine : Type 0 where
  pub clock : Day → ℕ → List Order → List Trade → Outcome ClockAnswer
  pub order : Day → Asked → List Order → List Trade → Outcome OrderAnswer
  pub cancel : Day → ℕ → ℕ → List Order → CancelOutcome
  pub report : Day → List Order → ReportReply.ReportReply
  pub list : Day → ℕ → List Order → List ℕ → ListOutcome

unfoldable pub present : Engine
present =
    record { clock = clock_call; order = order_call; cancel = cancel_call; report = report_call; list = list_call }

-- a call of any kind on an open day: an event with its trade list, a report, or a price list with the one that it is lent
pub data AnyCall : Type 0 where
  Happens : Call → AnyCall
  Reports : AnyCall
  Lists : ℕ → List ℕ → AnyCall

-- what is seen of it: its reply, how many trades it made, and the lent list as it leaves it
pub data Seen : Type 0 where
  Opened : OpenReply.OpenReply → Seen
  Moved : ClockReply.ClockReply → ℕ → List Trade → Seen
  Entered : OrderReply.OrderReply → ℕ → List Trade → Seen
  Cancelled : CancelReply.CancelReply → Seen
  Reported : ReportReply.ReportReply → Seen
  Listed : ListReply.ListReply → List ℕ → Seen

-- the trade list then, and the price list: a call that does not write to it leaves it
unfoldable pub trades_then : Seen → List Trade → List Trade
trades_then (Opened r) lent = lent
trades_then (Moved r made trades) lent = trades
trades_then (Entered r made trades) lent = trades
trades_then (Cancelled r) lent = lent
trades_then (Reported r) lent = lent
trades_then (Listed r prices) lent = lent

unfoldable pub prices_then : Seen → List ℕ → List ℕ
prices_then (Opened r) lent = lent
prices_then (Moved r made trades) lent = lent
prices_then (Entered r made trades) lent = lent
prices_then (Cancelled r) lent = lent
prices_then (Reported r) lent = lent
prices_then (Listed r prices) lent = prices

module _ (e : Engine) where
  unfoldable pub event_seen : Event.Event → List Trade → Desk → Seen
  event_seen (Event.TheVariants.Open close mark) lent s = Opened (open_call close mark s.book).reply
  event_seen (Event.TheVariants.Clock t) lent s =
      let o : Outcome ClockAnswer = e.clock s.day t s.book lent in Moved o.answer.reply o.answer.made o.trades
  event_seen (Event.TheVariants.Order a) lent s =
      let o : Outcome OrderAnswer = e.order s.day a s.book lent in Entered o.answer.reply o.answer.made o.trades
  event_seen (Event.TheVariants.Cancel account number) lent s =
      Cancelled (e.cancel s.day account number s.book).answer.reply

  unfoldable pub seen : AnyCall → Desk → Seen
  seen (Happens c) s = event_seen c.event c.lent s
  seen Reports s = Reported (e.report s.day s.book)
  seen (Lists asked lent) s =
      let o : ListOutcome = e.list s.day asked s.book lent in Listed o.reply o.prices

  -- the day and the book then
  unfoldable pub event_desk : Event.Event → List Trade → Desk → Desk
  event_desk (Event.TheVariants.Open close mark) lent s = reopened (open_call close mark s.book) s
  event_desk (Event.TheVariants.Clock t) lent s =
      let o : Outcome ClockAnswer = e.clock s.day t s.book lent in record { day = o.answer.day; book = o.book }
  event_desk (Event.TheVariants.Order a) lent s =
      let o : Outcome OrderAnswer = e.order s.day a s.book lent in record { day = o.answer.day; book = o.book }
  event_desk (Event.TheVariants.Cancel account number) lent s =
      let o : CancelOutcome = e.cancel s.day account number s.book in
      record { day = o.answer.day; book = o.book }

  unfoldable pub stepped : AnyCall → Desk → Desk
  stepped (Happens c) s = event_desk c.event c.lent s
  stepped Reports s = s
  stepped (Lists asked lent) s = s

  unfoldable pub all_seen : List AnyCall → Desk → List Seen
  all_seen [] s = []
  all_seen (v ∷ vs) s = seen v s ∷ all_seen vs (stepped v s)

  unfoldable pub after : List AnyCall → Desk → Desk
  after [] s = s
  after (v ∷ vs) s = after vs (stepped v s)
