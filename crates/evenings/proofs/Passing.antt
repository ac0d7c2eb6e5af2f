-- What is due at a second, where the move passes it and where it does not, as the code tests it. Assumes nothing.
use Prim.Native.Nat.{ℕ, ◌+◌}
use mathlib.Core.Path.{◌≡◌, refl, sym, ◌∙◌}
use mathlib.Core.Bool.{Bool, true, false, not}
use mathlib.Core.List.{List}
use native.Mathlib.Omega.{arith}
use borrow.Author.Tests.{not-true, not-false}
use Rattle.model.specs.declared.Declaration.{Declaration}
use Rattle.model.specs.declared.Day.{Day}
use Rattle.model.specs.Figures.{reference, close_price, with_block_figures, tally_blocks}
use Rattle.model.specs.Blocks.{confirmations}
use Rattle.model.specs.AfterClose.{After}
use Rattle.model.proofs.Evening.{due}
use Rattle.book.specs.declared.Dealt.{Dealt}
use Rattle.book.specs.Deals.{dealt}
use Rattle.moves.specs.Stops.{passes}
use Rattle.fixed_demands.proofs.Evenings.{due_done, due_left}
use Rattle.evenings.specs.declared.Evening.{Evening}
use Rattle.evenings.specs.Stage.{Stage, Threefold}
use Rattle.evenings.specs.Counts.{confirmed_ahead}
use Rattle.evenings.proofs.Places.{passes_told, misses_told}
use Rattle.model.specs.declared.Order.{Order}
use Rattle.model.specs.declared.Trade.{Trade}

module _ (c : ℕ) (f : After → After) (old new : ℕ) {b : Bool} (e : b ≡ passes c old new) where
  pub passed : not b ≡ false → passes c old new ≡ true
  passed n = sym e ∙ not-false b n

  module _ {h : After} {lent : List Trade} {ev : Evening} {line : List Order} {places : List Declaration} {trades : List Trade} where
    pub not_due : not b ≡ true → Stage h lent ev line places trades → Stage (due c f old new h) lent ev line places trades
    not_due n s = rw (due_left c f old new h (misses_told c old new (sym e ∙ not-true b n))) s

    pub is_due : not b ≡ false → Stage (f h) lent ev line places trades → Stage (due c f old new h) lent ev line places trades
    is_due n s = rw (due_done c f old new h (passes_told c old new (passed n))) s

-- what 15:00 leaves for 15:05
module _ (ev : Evening) (old new : ℕ) (held : List Declaration) {b : Bool} (e : b ≡ passes 54_000 old new) where
  pub three_waits : not b ≡ true → Threefold ev ev.day ev.made old new held
  unfolding confirmed_ahead
  three_waits n = record { fixed = refl; close = refl; made = rw (sym e ∙ not-true b n) (omega arith) }

  pub three_told :
      {r : Dealt} {day : Day}
      → not b ≡ false
      → r ≡ dealt (confirmations held)
      → day ≡ tally_blocks (confirmations held) ev.day
      → Threefold ev day (ev.made + r.made) old new held
  unfolding confirmed_ahead dealt tally_blocks with_block_figures close_price reference
  three_told n f g =
      record { fixed = rw g refl; close = rw g refl; made = rw (sym e ∙ not-false b n, f) refl }
