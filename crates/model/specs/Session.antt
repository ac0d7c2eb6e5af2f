-- The rehearsal program: from the bytes that it reads to the bytes that it writes.
use Rattle.std.specs.Prelude.{ℕ, List, [], ◌∷◌, ◌++◌, replicate, take}
use Rattle.std.proofs.Math.Option.{Option, none, some}
use Rattle.model.specs.declared.Order.{Order}
use Rattle.model.specs.declared.Asked.{Asked}
use Rattle.model.specs.declared.Trade.{Trade}
use Rattle.model.specs.declared.Day.{Day}
use Rattle.model.specs.declared.Command.{Command}
use Rattle.model.specs.declared.Command.TheVariants.{Malformed, Asks}
use Rattle.model.specs.declared.Event as Event
use Rattle.model.specs.declared.OpenReply as OpenReply
use Rattle.model.specs.declared.OrderAnswer.{OrderAnswer}
use Rattle.model.specs.declared.ClockAnswer.{ClockAnswer}
use Rattle.model.specs.Book.{free}
use Rattle.model.specs.Calls.{Outcome, OpenOutcome, CancelOutcome, open_call, order_call, cancel_call}
use Rattle.model.specs.ClockCall.{clock_call}
use Rattle.model.specs.Lines.{
  Line,
  lines_of,
  line_command,
  refusal_line,
  trade_lines,
  open_line,
  clock_line,
  order_line,
  cancel_line,
}

-- it lends 1,024 places and 2,048 trades
unfoldable pub lent_places : List Order
lent_places = replicate 1_024 free

unfoldable pub lent_trades : List Trade
lent_trades = replicate 2_048 (record { price = 0; quantity = 0; buyer = 0; seller = 0; buyerleft = 0; sellerleft = 0 })

-- the day and its book, once a day is open
pub record Desk : Type 0 where
  pub day : Day
  pub book : List Order

-- what a line is answered with, and the desk then
pub record Answered : Type 0 where
  pub text : List ℕ
  pub desk : Option Desk

-- a new `D` starts over; a refused one changes nothing
unfoldable pub opened : OpenOutcome → Option Desk → Option Desk
opened o desk =
    elim o.reply [
      | OpenReply.TheVariants.Refused n ↦ desk
      | OpenReply.TheVariants.Opened d ↦ some (record { day = d; book = o.book })
    ]

unfoldable pub open_answer : ℕ → ℕ → Option Desk → Answered
open_answer close mark desk =
    let o : OpenOutcome = open_call close mark lent_places in
    record { text = open_line o.reply; desk = opened o desk }

-- trades come first
unfoldable pub clock_answer : ℕ → Desk → Answered
clock_answer t s =
    let o : Outcome ClockAnswer = clock_call s.day t s.book lent_trades in
    record {
      text = trade_lines (take o.answer.made o.trades) ++ clock_line o.answer.reply;
      desk = some (record { day = o.answer.day; book = o.book });
    }

unfoldable pub order_answer : Asked → Desk → Answered
order_answer a s =
    let o : Outcome OrderAnswer = order_call s.day a s.book lent_trades in
    record {
      text = trade_lines (take o.answer.made o.trades) ++ order_line o.answer.reply;
      desk = some (record { day = o.answer.day; book = o.book });
    }

unfoldable pub cancel_answer : ℕ → ℕ → Desk → Answered
cancel_answer account number s =
    let o : CancelOutcome = cancel_call s.day account number s.book in
    record {
      text = cancel_line number o.answer.reply;
      desk = some (record { day = o.answer.day; book = o.book });
    }

-- 17: no day opened yet
unfoldable pub on_desk : (Desk → Answered) → Option Desk → Answered
on_desk f none = record { text = refusal_line 17; desk = none }
on_desk f (some s) = f s

unfoldable pub event_answer : Event.Event → Option Desk → Answered
event_answer (Event.TheVariants.Open close mark) desk = open_answer close mark desk
event_answer (Event.TheVariants.Clock t) desk = on_desk (clock_answer t) desk
event_answer (Event.TheVariants.Order a) desk = on_desk (order_answer a) desk
event_answer (Event.TheVariants.Cancel account number) desk = on_desk (cancel_answer account number) desk

-- 16: line not of the form; it precedes 17
unfoldable pub answer : Command → Option Desk → Answered
answer Malformed desk = record { text = refusal_line 16; desk = desk }
answer (Asks e) desk = event_answer e desk

unfoldable pub answers : List Line → Option Desk → List ℕ
answers [] desk = []
answers (l ∷ ls) desk = (answer (line_command l) desk).text ++ answers ls (answer (line_command l) desk).desk

-- the whole session
unfoldable pub session : List ℕ → List ℕ
session input = answers (lines_of input) none
