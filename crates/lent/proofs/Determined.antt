-- No two differing outcomes meet a call's promise: answer, every place of the lent book, and every trade or price of the lent
-- list. Assumes nothing.
use Prim.Native.Nat.{ℕ}
use mathlib.Core.Path.{◌≡◌, sym, ap, ◌∙◌}
use mathlib.Core.List.{List}
use Rattle.model.specs.declared.Order.{Order}
use Rattle.model.specs.Calls.{Outcome}
use Rattle.lent.specs.declared.OnDay.{OnDay}
use Rattle.lent.specs.declared.Answer.{Answer}
use Rattle.lent.specs.declared.Question.{Question}
use Rattle.lent.specs.declared.Told.{Told}
use Rattle.lent.specs.Calls.{EventPromise, View, QuestionPromise}
use Rattle.model.specs.declared.Trade.{Trade}

pub event_determined :
    (asked : OnDay) (before m n : List Order) (lent ts us : List Trade) (r s : Answer)
    → EventPromise before lent asked r m ts
    → EventPromise before lent asked s n us
    → (r ≡ s) × (m ≡ n) × (ts ≡ us)
event_determined asked before m n lent ts us r s e f = (
  ap (λ (o : Outcome Answer). o.answer) (e ∙ sym f),
  ap (λ (o : Outcome Answer). o.book) (e ∙ sym f),
  ap (λ (o : Outcome Answer). o.trades) (e ∙ sym f),
)

pub question_determined :
    (question : Question) (book : List Order) (lent m n : List ℕ) (r s : Told)
    → QuestionPromise book lent question r m
    → QuestionPromise book lent question s n
    → (r ≡ s) × (m ≡ n)
question_determined question book lent m n r s e f =
    (ap (λ (v : View). v.told) (e ∙ sym f), ap (λ (v : View). v.prices) (e ∙ sym f))
