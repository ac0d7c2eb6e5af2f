-- An event or a question is answered by the call of its kind. Assumes nothing.
use Prim.Native.Nat.{ℕ}
use mathlib.Core.Path.{◌≡◌, sym, ap, ◌∙◌}
use mathlib.Core.List.{List}
use Rattle.model.specs.declared.Asked.{Asked}
use Rattle.model.specs.declared.Day.{Day}
use Rattle.model.specs.declared.OpenReply.{OpenReply}
use Rattle.model.specs.declared.OrderAnswer.{OrderAnswer}
use Rattle.model.specs.declared.ClockAnswer.{ClockAnswer}
use Rattle.model.specs.declared.CancelAnswer.{CancelAnswer}
use Rattle.model.specs.declared.ReportReply.{ReportReply}
use Rattle.model.specs.declared.ListReply.{ListReply}
use Rattle.model.specs.Calls.{OpenOutcome, CancelOutcome, open_call, order_call, cancel_call}
use Rattle.model.specs.ClockCall.{clock_call}
use Rattle.model.specs.AuctionCalls.{ListOutcome, report_call, list_call}
use Rattle.book.specs.Promises.{open_left, call_left, cancel_left, list_left}
use Rattle.model.specs.declared.Event as Event
use Rattle.lent.specs.declared.Answer as Answer
use Rattle.lent.specs.declared.OnDay.{OnDay}
use Rattle.lent.specs.declared.Question as Question
use Rattle.lent.specs.declared.Told as Told
use Rattle.lent.specs.Calls.{answered, call_of, event_call, question_call, question_left}
use Rattle.model.specs.declared.Order.{Order}
use Rattle.model.specs.declared.Trade.{Trade}

module _ (asked : OnDay) (rows rows' : List Order) (trades : List Trade) where
  pub opened :
      {close mark : ℕ} {r : OpenReply}
      → asked.event ≡ Event.TheVariants.Open close mark
      → open_left r rows' ≡ open_call close mark rows
      → call_left (Answer.TheVariants.Open r) rows' trades ≡ event_call asked rows trades
  unfolding call_of
  opened e p =
      ap (λ (o : OpenOutcome). record { answer = Answer.TheVariants.Open o.reply; book = o.book; trades = trades }) p
      ∙ ap (λ (v : Event.Event). call_of v asked.day rows trades) (sym e)

  pub cancelled :
      {account number : ℕ} {r : CancelAnswer}
      → asked.event ≡ Event.TheVariants.Cancel account number
      → cancel_left r rows' ≡ cancel_call asked.day account number rows
      → call_left (Answer.TheVariants.Cancel r) rows' trades ≡ event_call asked rows trades
  unfolding call_of
  cancelled e p =
      ap (λ (o : CancelOutcome). record { answer = Answer.TheVariants.Cancel o.answer; book = o.book; trades = trades }) p
      ∙ ap (λ (v : Event.Event). call_of v asked.day rows trades) (sym e)

  module _ (trades' : List Trade) where
    pub moved :
        {time : ℕ} {r : ClockAnswer}
        → asked.event ≡ Event.TheVariants.Clock time
        → call_left r rows' trades' ≡ clock_call asked.day time rows trades
        → call_left (Answer.TheVariants.Clock r) rows' trades' ≡ event_call asked rows trades
    unfolding call_of
    moved e p =
        ap (answered Answer.TheVariants.Clock) p
        ∙ ap (λ (v : Event.Event). call_of v asked.day rows trades) (sym e)

    pub entered :
        {a : Asked} {r : OrderAnswer}
        → asked.event ≡ Event.TheVariants.Order a
        → call_left r rows' trades' ≡ order_call asked.day a rows trades
        → call_left (Answer.TheVariants.Order r) rows' trades' ≡ event_call asked rows trades
    unfolding call_of
    entered e p =
        ap (answered Answer.TheVariants.Order) p
        ∙ ap (λ (v : Event.Event). call_of v asked.day rows trades) (sym e)

module _ (question : Question.Question) (rows : List Order) (prices : List ℕ) where
  pub reported :
      {d : Day} {r : ReportReply}
      → question ≡ Question.TheVariants.Report d
      → r ≡ report_call d rows
      → question_left (Told.TheVariants.Report r) prices ≡ question_call question rows prices
  unfolding question_call
  reported e p =
      ap (λ (r : ReportReply). question_left (Told.TheVariants.Report r) prices) p
      ∙ ap (λ (v : Question.Question). question_call v rows prices) (sym e)

  pub listed :
      {d : Day} {asked : ℕ} {r : ListReply} {prices' : List ℕ}
      → question ≡ Question.TheVariants.List d asked
      → list_left r prices' ≡ list_call d asked rows prices
      → question_left (Told.TheVariants.List r) prices' ≡ question_call question rows prices
  unfolding question_call
  listed e p =
      ap (λ (o : ListOutcome). question_left (Told.TheVariants.List o.reply) o.prices) p
      ∙ ap (λ (v : Question.Question). question_call v rows prices) (sym e)
