-- A sound fixed-price book stays sound, and so do its figures among the day's: it is sound after an opening, and after each call, refused
-- or not.
use Rattle.std.specs.Prelude.{ℕ, ◌≡◌, true, false, List}
use Rattle.model.specs.declared.Order.{Order}
use Rattle.model.specs.declared.Declaration.{Declaration}
use Rattle.model.specs.declared.Asked.{Asked}
use Rattle.model.specs.declared.AskedFixed.{AskedFixed}
use Rattle.model.specs.declared.AskedBlock.{AskedBlock}
use Rattle.model.specs.declared.Trade.{Trade}
use Rattle.model.specs.declared.Day.{Day}
use Rattle.model.specs.declared.OrderAnswer.{OrderAnswer}
use Rattle.model.specs.Figures.{fresh_day}
use Rattle.model.specs.Books.{Books}
use Rattle.model.specs.Sound.{has_places, fixed_fits}
use Rattle.model.specs.Refusals.{unsound, unsound_fixed}
use Rattle.model.specs.Calls.{Outcome, cleared, order_call, cancel_call}
use Rattle.model.specs.FixedCalls.{fixed_call, fixed_cancel_call}
use Rattle.model.specs.BlockCalls.{block_call}
use Rattle.model.specs.AllCalls.{ClockAllOutcome, clock_all_call}

pub record KeepingFixed : Type 0 where
  -- an opening frees every place
  pub fresh :
      (close mark : ℕ) (book : List Order)
      → has_places book ≡ true
      → unsound_fixed (fresh_day close mark) (cleared book) ≡ false
  -- its own calls: the main book stays sound too
  pub fixed_order :
      (d : Day) (a : AskedFixed) (main book : List Order) (lent : List Trade)
      → unsound d main ≡ false
      → unsound_fixed d book ≡ false
      → let o : Outcome OrderAnswer = fixed_call d a main book lent in
      (unsound o.answer.day main ≡ false) × (unsound_fixed o.answer.day o.book ≡ false)
  -- a cancel leaves the day
  pub fixed_cancel :
      (d : Day) (account number : ℕ) (main book : List Order)
      → unsound_fixed d book ≡ false
      → unsound_fixed d (fixed_cancel_call d account number main book).book ≡ false
  -- the calls that are not lent it
  pub order :
      (d : Day) (a : Asked) (main book : List Order) (lent : List Trade)
      → unsound_fixed d book ≡ false
      → unsound_fixed (order_call d a main lent).answer.day book ≡ false
  pub cancel :
      (d : Day) (account number : ℕ) (main book : List Order)
      → unsound_fixed d book ≡ false
      → unsound_fixed (cancel_call d account number main).answer.day book ≡ false
  pub declaration :
      (d : Day) (a : AskedBlock) (main book : List Order) (held : List Declaration) (lent : List Trade)
      → unsound_fixed d book ≡ false
      → unsound_fixed (block_call d a main held lent).answer.day book ≡ false
  -- a move, also over 15:05 and 15:30
  pub move :
      (d : Day) (t : ℕ) (s : Books) (lent : List Trade)
      → unsound d s.main ≡ false
      → unsound_fixed d s.fixed ≡ false
      → let o : ClockAllOutcome = clock_all_call d t s lent in
      (fixed_fits o.answer.day ≡ true) × (unsound_fixed o.answer.day o.books.fixed ≡ false)
