-- What the two calls of the fixed-price book promise: of the day, the rows of both books and the trade list that they are lent and of what
-- is asked, their reply and what they leave are those of the definitions' call. The main book is only read.
use Rattle.std.specs.Prelude.{ℕ, ◌≡◌, List}
use Rattle.model.specs.declared.AskedFixed.{AskedFixed}
use Rattle.model.specs.declared.Day.{Day}
use Rattle.model.specs.declared.OrderAnswer.{OrderAnswer}
use Rattle.model.specs.declared.CancelReply.{CancelReply}
use Rattle.model.specs.FixedCalls.{fixed_call, fixed_cancel_call}
use Rattle.book.specs.Promises.{call_left, fixed_cancel_left}
use Rattle.model.specs.declared.Order.{Order}
use Rattle.model.specs.declared.Trade.{Trade}

abbrev pub FixedPromise : Day → List Order → List Order → List Trade → AskedFixed → OrderAnswer → List Order → List Trade → Type 0
FixedPromise d main rows trades a answer rows' trades' =
    call_left answer rows' trades' ≡ fixed_call d a main rows trades

abbrev pub FixedCancelPromise : Day → List Order → List Order → ℕ → ℕ → CancelReply → List Order → Type 0
FixedCancelPromise d main rows account number reply rows' =
    fixed_cancel_left reply rows' ≡ fixed_cancel_call d account number main rows
