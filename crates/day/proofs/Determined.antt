-- No two differing outcomes meet a call's promise: reply, day, and every place of lent memory. Assumes nothing.
use Prim.Native.Nat.{ℕ}
use mathlib.Core.Path.{◌≡◌, sym, ap, ◌∙◌}
use mathlib.Core.List.{List}
use Rattle.model.specs.declared.Asked.{Asked}
use Rattle.model.specs.declared.Day.{Day}
use Rattle.model.specs.declared.OpenReply.{OpenReply}
use Rattle.model.specs.declared.OrderAnswer.{OrderAnswer}
use Rattle.model.specs.declared.ClockAnswer.{ClockAnswer}
use Rattle.model.specs.declared.CancelAnswer.{CancelAnswer}
use Rattle.model.specs.declared.ReportReply.{ReportReply}
use Rattle.model.specs.declared.ListReply.{ListReply}
use Rattle.model.specs.Calls.{Outcome, OpenOutcome, CancelOutcome, order_call}
use Rattle.model.specs.ClockCall.{clock_call}
use Rattle.model.specs.AuctionCalls.{ListOutcome}
use Rattle.book.specs.Promises.{call_left}
use Rattle.day.specs.Promises.{OpenPromise, ClockPromise, OrderPromise, CancelPromise, ReportPromise, ListPromise}
use Rattle.model.specs.declared.Order.{Order}
use Rattle.model.specs.declared.Trade.{Trade}

-- ---- the calls

pub open_determined :
    (close mark : ℕ) (before m n : List Order) (r s : OpenReply)
    → OpenPromise before close mark r m
    → OpenPromise before close mark s n
    → (r ≡ s) × (m ≡ n)
open_determined close mark before m n r s e f =
    (ap (λ (o : OpenOutcome). o.reply) (e ∙ sym f), ap (λ (o : OpenOutcome). o.book) (e ∙ sym f))

-- an order and a move of the clock leave the same kind of outcome
trading_determined :
    {A : Type 0} (o : Outcome A) (m n : List Order) (ts us : List Trade) (r s : A)
    → call_left r m ts ≡ o
    → call_left s n us ≡ o
    → (r ≡ s) × (m ≡ n) × (ts ≡ us)
trading_determined {A} o m n ts us r s e f = (
  ap (λ (x : Outcome A). x.answer) (e ∙ sym f),
  ap (λ (x : Outcome A). x.book) (e ∙ sym f),
  ap (λ (x : Outcome A). x.trades) (e ∙ sym f),
)

pub order_determined :
    (d : Day) (a : Asked) (before : List Order) (lent : List Trade) (m n : List Order) (ts us : List Trade) (r s : OrderAnswer)
    → OrderPromise d before lent a r m ts
    → OrderPromise d before lent a s n us
    → (r ≡ s) × (m ≡ n) × (ts ≡ us)
order_determined d a before lent = trading_determined (order_call d a before lent)

pub clock_determined :
    (d : Day) (time : ℕ) (before : List Order) (lent : List Trade) (m n : List Order) (ts us : List Trade) (r s : ClockAnswer)
    → ClockPromise d before lent time r m ts
    → ClockPromise d before lent time s n us
    → (r ≡ s) × (m ≡ n) × (ts ≡ us)
clock_determined d time before lent = trading_determined (clock_call d time before lent)

pub cancel_determined :
    (d : Day) (account number : ℕ) (before m n : List Order) (r s : CancelAnswer)
    → CancelPromise d before account number r m
    → CancelPromise d before account number s n
    → (r ≡ s) × (m ≡ n)
cancel_determined d account number before m n r s e f =
    (ap (λ (o : CancelOutcome). o.answer) (e ∙ sym f), ap (λ (o : CancelOutcome). o.book) (e ∙ sym f))

pub report_determined :
    (d : Day) (rows : List Order) (r s : ReportReply) → ReportPromise d rows r → ReportPromise d rows s → r ≡ s
report_determined d rows r s e f = e ∙ sym f

pub list_determined :
    (d : Day) (asked : ℕ) (rows : List Order) (lent m n : List ℕ) (r s : ListReply)
    → ListPromise d rows lent asked r m
    → ListPromise d rows lent asked s n
    → (r ≡ s) × (m ≡ n)
list_determined d asked rows lent m n r s e f =
    (ap (λ (o : ListOutcome). o.reply) (e ∙ sym f), ap (λ (o : ListOutcome). o.prices) (e ∙ sym f))
