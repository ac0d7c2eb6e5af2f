-- No two differing outcomes meet the promise of a fixed-price order or cancel: reply, day, and every place of lent memory. Assumes
-- nothing.
use Prim.Native.Nat.{ℕ}
use mathlib.Core.Path.{◌≡◌, sym, ap, ◌∙◌}
use mathlib.Core.List.{List}
use Rattle.model.specs.declared.AskedFixed.{AskedFixed}
use Rattle.model.specs.declared.Day.{Day}
use Rattle.model.specs.declared.OrderAnswer.{OrderAnswer}
use Rattle.model.specs.declared.CancelReply.{CancelReply}
use Rattle.model.specs.Calls.{Outcome}
use Rattle.model.specs.FixedCalls.{FixedCancelOutcome}
use Rattle.fixed_calls.specs.Promises.{FixedPromise, FixedCancelPromise}
use Rattle.model.specs.declared.Order.{Order}
use Rattle.model.specs.declared.Trade.{Trade}

-- ---- the two calls

pub fixed_determined :
    (d : Day) (a : AskedFixed) (main before : List Order) (lent : List Trade) (m n : List Order) (ts us : List Trade) (r s : OrderAnswer)
    → FixedPromise d main before lent a r m ts
    → FixedPromise d main before lent a s n us
    → (r ≡ s) × (m ≡ n) × (ts ≡ us)
fixed_determined d a main before lent m n ts us r s e f = (
  ap (λ (x : Outcome OrderAnswer). x.answer) (e ∙ sym f),
  ap (λ (x : Outcome OrderAnswer). x.book) (e ∙ sym f),
  ap (λ (x : Outcome OrderAnswer). x.trades) (e ∙ sym f),
)

pub fixed_cancel_determined :
    (d : Day) (account number : ℕ) (main before m n : List Order) (r s : CancelReply)
    → FixedCancelPromise d main before account number r m
    → FixedCancelPromise d main before account number s n
    → (r ≡ s) × (m ≡ n)
fixed_cancel_determined d account number main before m n r s e f = (
  ap (λ (x : FixedCancelOutcome). x.reply) (e ∙ sym f),
  ap (λ (x : FixedCancelOutcome). x.book) (e ∙ sym f),
)
