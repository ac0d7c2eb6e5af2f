-- The book in priority order: a sound one is as it would be arranged, and so is what every call leaves.
use Rattle.std.specs.Prelude.{ℕ, ◌≡◌, List, length}
use Rattle.model.specs.declared.Order.{Order}
use Rattle.model.specs.declared.Asked.{Asked}
use Rattle.model.specs.declared.Trade.{Trade}
use Rattle.model.specs.declared.Day.{Day}
use Rattle.model.specs.Calls.{order_call, cancel_call}
use Rattle.model.specs.ClockCall.{clock_call}
use Rattle.model.specs.Words.{Ordered, Sound}

pub record Ordering : Type 0 where
  pub sound : (d : Day) (book : List Order) → Sound d book → Ordered book
  pub order :
      (d : Day) (a : Asked) (book : List Order) (lent : List Trade) → Sound d book → Ordered (order_call d a book lent).book
  pub cancel :
      (d : Day) (account number : ℕ) (book : List Order) → Sound d book → Ordered (cancel_call d account number book).book
  pub clock :
      (d : Day) (t : ℕ) (book : List Order) (lent : List Trade) → Sound d book → Ordered (clock_call d t book lent).book
  -- every place that was there is there: nothing is cut off
  pub order_places : (d : Day) (a : Asked) (book : List Order) (lent : List Trade) → length (order_call d a book lent).book ≡ length book
  pub cancel_places : (d : Day) (account number : ℕ) (book : List Order) → length (cancel_call d account number book).book ≡ length book
  pub clock_places : (d : Day) (t : ℕ) (book : List Order) (lent : List Trade) → length (clock_call d t book lent).book ≡ length book
