-- Demand 2, its ground: an accepted opening gives a sound day, and every call keeps a sound day sound, accepted or refused.
use Rattle.std.specs.Prelude.{ℕ, ◌≡◌, List}
use Rattle.model.specs.declared.Order.{Order}
use Rattle.model.specs.declared.Asked.{Asked}
use Rattle.model.specs.declared.Trade.{Trade}
use Rattle.model.specs.declared.Day.{Day}
use Rattle.model.specs.declared.OpenReply as OpenReply
use Rattle.model.specs.Calls.{open_call, order_call, cancel_call}
use Rattle.model.specs.ClockCall.{clock_call}
use Rattle.model.specs.Words.{Sound}

pub record Keeping : Type 0 where
  pub fresh :
      (close mark : ℕ) (book : List Order) (d : Day)
      → (open_call close mark book).reply ≡ OpenReply.TheVariants.Opened d
      → Sound d (open_call close mark book).book
  pub order_kept :
      (d : Day) (a : Asked) (book : List Order) (lent : List Trade)
      → Sound d book
      → Sound (order_call d a book lent).answer.day (order_call d a book lent).book
  pub cancel_kept :
      (d : Day) (account number : ℕ) (book : List Order)
      → Sound d book
      → Sound (cancel_call d account number book).answer.day (cancel_call d account number book).book
  pub clock_kept :
      (d : Day) (t : ℕ) (book : List Order) (lent : List Trade)
      → Sound d book
      → Sound (clock_call d t book lent).answer.day (clock_call d t book lent).book
