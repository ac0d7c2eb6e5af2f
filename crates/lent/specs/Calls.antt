-- The calls on a lent slice of order records: what an event or a question leaves is what the definitions' call gives.
use Rattle.std.specs.Prelude.{ℕ, ◌≡◌, List}
use Rattle.model.specs.declared.Order.{Order}
use Rattle.model.specs.declared.Trade.{Trade}
use Rattle.model.specs.Calls.{Outcome, open_call, order_call, cancel_call}
use Rattle.model.specs.ClockCall.{clock_call}
use Rattle.model.specs.AuctionCalls.{report_call, list_call}
use Rattle.model.specs.declared.Day.{Day}
use Rattle.model.specs.declared.Event as Event
use Rattle.lent.specs.declared.OnDay.{OnDay}
use Rattle.lent.specs.declared.Answer as Answer
use Rattle.lent.specs.declared.Question as Question
use Rattle.lent.specs.declared.Told as Told

-- ---- the calls that change a day

-- an outcome, with its answer as the answer to an event of its kind
abbrev pub answered : {A : Type 0} → (A → Answer.Answer) → Outcome A → Outcome Answer.Answer
answered kind o = record { answer = kind o.answer; book = o.book; trades = o.trades }

-- an opening and a cancel leave the trade list as it was
unfoldable pub call_of : Event.Event → Day → List Order → List Trade → Outcome Answer.Answer
call_of (Event.TheVariants.Open close mark) day book lent =
    record {
      answer = Answer.TheVariants.Open (open_call close mark book).reply;
      book = (open_call close mark book).book;
      trades = lent;
    }
call_of (Event.TheVariants.Clock time) day book lent =
    answered Answer.TheVariants.Clock (clock_call day time book lent)
call_of (Event.TheVariants.Order asked) day book lent =
    answered Answer.TheVariants.Order (order_call day asked book lent)
call_of (Event.TheVariants.Cancel account number) day book lent =
    record {
      answer = Answer.TheVariants.Cancel (cancel_call day account number book).answer;
      book = (cancel_call day account number book).book;
      trades = lent;
    }

abbrev pub event_call : OnDay → List Order → List Trade → Outcome Answer.Answer
event_call asked book lent = call_of asked.event asked.day book lent

-- what an event left behind: its answer, the book, and the rows of the trade list
abbrev pub event_left : Answer.Answer → List Order → List Trade → Outcome Answer.Answer
event_left answer book trades = record { answer = answer; book = book; trades = trades }

-- what a call with an event promises, of the book and the rows of the trade list as they were and as they are left
abbrev pub EventPromise : List Order → List Trade → OnDay → Answer.Answer → List Order → List Trade → Type 0
EventPromise book trades asked answer book' trades' =
    event_left answer book' trades' ≡ event_call asked book trades

-- ---- the calls that only ask

-- what is told, and the price list as it is left
pub record View : Type 0 where
  pub told : Told.Told
  pub prices : List ℕ

-- a report leaves the price list as it was
unfoldable pub question_call : Question.Question → List Order → List ℕ → View
question_call (Question.TheVariants.Report day) book lent =
    record { told = Told.TheVariants.Report (report_call day book); prices = lent }
question_call (Question.TheVariants.List day asked) book lent =
    record {
      told = Told.TheVariants.List (list_call day asked book lent).reply;
      prices = (list_call day asked book lent).prices;
    }

abbrev pub question_left : Told.Told → List ℕ → View
question_left told prices = record { told = told; prices = prices }

-- what a call with a question promises, of the book and of the price list as it was and as it is left
abbrev pub QuestionPromise : List Order → List ℕ → Question.Question → Told.Told → List ℕ → Type 0
QuestionPromise book prices question told prices' = question_left told prices' ≡ question_call question book prices
