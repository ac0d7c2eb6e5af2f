-- Sound declarations stay so: after an opening, and over every call, accepted or refused. The bound on the confirmed shares is kept
-- together with what covers it (Held), which a fresh day has.
use Rattle.std.specs.Prelude.{ℕ, ◌≡◌, true, false, List, length}
use Rattle.model.specs.declared.Order.{Order}
use Rattle.model.specs.declared.Asked.{Asked}
use Rattle.model.specs.declared.AskedFixed.{AskedFixed}
use Rattle.model.specs.declared.AskedBlock.{AskedBlock}
use Rattle.model.specs.declared.Declaration.{Declaration}
use Rattle.model.specs.declared.Trade.{Trade}
use Rattle.model.specs.declared.Day.{Day}
use Rattle.model.specs.declared.OpenReply as OpenReply
use Rattle.model.specs.Books.{Books}
use Rattle.model.specs.Sound.{blocks_fit}
use Rattle.model.specs.Refusals.{first_of, unsound_fixed, unsound_blocks}
use Rattle.model.specs.Calls.{order_call, cancel_call}
use Rattle.model.specs.FixedCalls.{fixed_call}
use Rattle.model.specs.BlockCalls.{BlockOutcome, block_rules, block_call}
use Rattle.model.specs.AllCalls.{open_all_call, clock_all_call}
use Rattle.model.specs.Words.{Sound}
use Rattle.block_demands.specs.Held.{Covered}

pub record Kept (d : Day) (held : List Declaration) : Type 0 where
  pub fit : blocks_fit d ≡ true
  pub sound : unsound_blocks d held ≡ false
  pub covered : Covered d held

pub record Keeping : Type 0 where
  pub fresh :
      (close mark : ℕ) (s : Books) (d : Day)
      → (open_all_call close mark s).reply ≡ OpenReply.TheVariants.Opened d
      → Kept d (open_all_call close mark s).books.blocks
  -- a declaration: what is said of the main book and of the fixed-price book stays too
  pub declaration :
      (d : Day) (a : AskedBlock) (main : List Order) (held : List Declaration) (lent : List Trade)
      → Sound d main
      → Kept d held
      → let o : BlockOutcome = block_call d a main held lent in
      Kept o.answer.day o.held
      × Sound o.answer.day main
      × ((book : List Order) → unsound_fixed o.answer.day book ≡ unsound_fixed d book)
  pub clock :
      (d : Day) (t : ℕ) (s : Books) (lent : List Trade)
      → Kept d s.blocks
      → Kept (clock_all_call d t s lent).answer.day (clock_all_call d t s lent).books.blocks
  -- the other calls are not lent the declarations. A cancel of a fixed-price order hands back no day.
  pub order :
      (d : Day) (a : Asked) (book : List Order) (lent : List Trade) (held : List Declaration)
      → Kept d held
      → Kept (order_call d a book lent).answer.day held
  pub cancel :
      (d : Day) (account number : ℕ) (book : List Order) (held : List Declaration)
      → Kept d held
      → Kept (cancel_call d account number book).answer.day held
  pub fixed :
      (d : Day) (a : AskedFixed) (main book : List Order) (lent : List Trade) (held : List Declaration)
      → Kept d held
      → Kept (fixed_call d a main book lent).answer.day held

-- Without what covers it the bound is not kept: there is a sound day and a declaration that no rule refuses, after which the confirmed
-- shares are above it. No day from an opening is such a day.
pub record Uncovered : Type 0 where
  pub day : Day
  pub main : List Order
  pub held : List Declaration
  pub asked : AskedBlock
  pub lent : List Trade
  pub main_sound : Sound day main
  pub held_sound : unsound_blocks day held ≡ false
  pub allowed : first_of (block_rules day asked main held (length lent)) ≡ 0
  pub above : blocks_fit (block_call day asked main held lent).answer.day ≡ false
