-- Demand 2, the day's totals after an event: those before with the event's trades added.
use Rattle.std.specs.Prelude.{ℕ, ◌+◌, ◌≡◌, List, [], take, eqb, if◌then◌else◌}
use Rattle.model.specs.declared.Order.{Order}
use Rattle.model.specs.declared.Asked.{Asked}
use Rattle.model.specs.declared.Trade.{Trade}
use Rattle.model.specs.declared.Day.{Day}
use Rattle.model.specs.declared.OrderAnswer.{OrderAnswer}
use Rattle.model.specs.declared.ClockAnswer.{ClockAnswer}
use Rattle.model.specs.Matching.{filled, first_price, last_price}
use Rattle.model.specs.Figures.{money}
use Rattle.model.specs.Calls.{Outcome, order_call, cancel_call}
use Rattle.model.specs.ClockCall.{clock_call}
use Rattle.model.specs.Words.{Sound}

-- shares, turnover, first and last are those before with the trades added
pub record Totals (d after : Day) (ts : List Trade) : Type 0 where
  pub shares : after.shares ≡ d.shares + filled ts
  pub turnover : after.turnover ≡ d.turnover + money ts
  pub first : after.first ≡ (if eqb d.first 0 then first_price 0 ts else d.first)
  pub last : after.last ≡ last_price d.last ts

-- the trades of an event are the first of the trade list, as many as it says that it made: none where it is refused
pub record Totalling : Type 0 where
  pub order :
      (d : Day) (a : Asked) (book : List Order) (lent : List Trade)
      → let o : Outcome OrderAnswer = order_call d a book lent in Totals d o.answer.day (take o.answer.made o.trades)
  pub cancel :
      (d : Day) (account number : ℕ) (book : List Order) → Totals d (cancel_call d account number book).answer.day []
  pub clock :
      (d : Day) (t : ℕ) (book : List Order) (lent : List Trade)
      → Sound d book
      → let o : Outcome ClockAnswer = clock_call d t book lent in Totals d o.answer.day (take o.answer.made o.trades)
