-- Demand 2, time: only a move of the clock changes it.
use Rattle.std.specs.Prelude.{ℕ, ◌≡◌, List}
use Rattle.model.specs.declared.Order.{Order}
use Rattle.model.specs.declared.Asked.{Asked}
use Rattle.model.specs.declared.Trade.{Trade}
use Rattle.model.specs.declared.Day.{Day}
use Rattle.model.specs.declared.ClockReply.TheVariants.{Refused, Moved}
use Rattle.model.specs.Halts.{phase_now}
use Rattle.model.specs.Calls.{order_call, cancel_call}
use Rattle.model.specs.ClockCall.{clock_call}

pub record Timing : Type 0 where
  pub order_stays :
      (d : Day) (a : Asked) (book : List Order) (lent : List Trade) → (order_call d a book lent).answer.day.time ≡ d.time
  pub cancel_stays :
      (d : Day) (account number : ℕ) (book : List Order) → (cancel_call d account number book).answer.day.time ≡ d.time
  -- a move that is accepted stands at its second, and tells the phase of the day that it leaves
  pub clock_moves :
      (d : Day) (t : ℕ) (book : List Order) (lent : List Trade) (phase made : ℕ)
      → (clock_call d t book lent).answer.reply ≡ Moved phase made
      → ((clock_call d t book lent).answer.day.time ≡ t) × (phase ≡ phase_now (clock_call d t book lent).answer.day)
  -- one that is refused stands where it stood
  pub clock_stays :
      (d : Day) (t : ℕ) (book : List Order) (lent : List Trade) (n : ℕ)
      → (clock_call d t book lent).answer.reply ≡ Refused n
      → (clock_call d t book lent).answer.day.time ≡ d.time
