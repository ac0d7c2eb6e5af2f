-- Demand 2 over all lists, its ground: an accepted opening gives a sound day, and every call keeps a sound day sound, accepted or refused.
use Rattle.std.specs.Prelude.{ℕ, ◌≡◌, false, List}
use Rattle.model.specs.declared.Asked.{Asked}
use Rattle.model.specs.declared.AskedFixed.{AskedFixed}
use Rattle.model.specs.declared.AskedBlock.{AskedBlock}
use Rattle.model.specs.declared.Order.{Order}
use Rattle.model.specs.declared.Trade.{Trade}
use Rattle.model.specs.declared.Day.{Day}
use Rattle.model.specs.declared.OpenReply as OpenReply
use Rattle.model.specs.declared.OrderAnswer.{OrderAnswer}
use Rattle.model.specs.Books.{Books, with_fixed, with_blocks}
use Rattle.model.specs.Refusals.{unsound_fixed, unsound_blocks}
use Rattle.model.specs.Calls.{Outcome, CancelOutcome, order_call, cancel_call}
use Rattle.model.specs.FixedCalls.{fixed_call, fixed_cancel_call}
use Rattle.model.specs.BlockCalls.{BlockOutcome, block_call}
use Rattle.model.specs.AllCalls.{ClockAllOutcome, open_all_call, clock_all_call}
use Rattle.model.specs.Words.{Sound}
use Rattle.block_demands.specs.Held.{Covered}

-- refusal 15 is given for none of the lists
pub record SoundAll (d : Day) (s : Books) : Type 0 where
  pub main : Sound d s.main
  pub fixed : unsound_fixed d s.fixed ≡ false
  pub blocks : unsound_blocks d s.blocks ≡ false

-- and the confirmed shares leave room for what is held: soundness by itself bounds them alone, and one confirmation more could then
-- pass the bound
pub record Kept (d : Day) (s : Books) : Type 0 where
  pub sound : SoundAll d s
  pub covered : Covered d s.blocks

-- the lists with another main book
unfoldable pub with_main : List Order → Books → Books
with_main book s = record { main = book; fixed = s.fixed; blocks = s.blocks }

-- a call of one list leaves the others
pub record KeepingAll : Type 0 where
  pub fresh :
      (close mark : ℕ) (s : Books) (d : Day)
      → (open_all_call close mark s).reply ≡ OpenReply.TheVariants.Opened d
      → Kept d (open_all_call close mark s).books
  pub order_kept :
      (d : Day) (a : Asked) (s : Books) (lent : List Trade)
      → Kept d s
      → let o : Outcome OrderAnswer = order_call d a s.main lent in Kept o.answer.day (with_main o.book s)
  pub cancel_kept :
      (d : Day) (account number : ℕ) (s : Books)
      → Kept d s
      → let o : CancelOutcome = cancel_call d account number s.main in Kept o.answer.day (with_main o.book s)
  pub fixed_kept :
      (d : Day) (a : AskedFixed) (s : Books) (lent : List Trade)
      → Kept d s
      → let o : Outcome OrderAnswer = fixed_call d a s.main s.fixed lent in Kept o.answer.day (with_fixed o.book s)
  pub fixed_cancel_kept :
      (d : Day) (account number : ℕ) (s : Books)
      → Kept d s
      → Kept d (with_fixed (fixed_cancel_call d account number s.main s.fixed).book s)
  pub block_kept :
      (d : Day) (a : AskedBlock) (s : Books) (lent : List Trade)
      → Kept d s
      → let o : BlockOutcome = block_call d a s.main s.blocks lent in Kept o.answer.day (with_blocks o.held s)
  pub clock_kept :
      (d : Day) (t : ℕ) (s : Books) (lent : List Trade)
      → Kept d s
      → let o : ClockAllOutcome = clock_all_call d t s lent in Kept o.answer.day o.books
