-- `clock::row_at` meets its contract: a row that has begun is held in place of the one before it, and the first that has not ends the
-- look-up. That the code's table is the definitions' is seen by computation.
use mathlib.Core.Path.{refl, sym, ◌∙◌}
use Rattle.model.specs.Clock.{closed, later_rows, row_at}
use Rattle.clock.proofs.Rows.{holds_still, holds_next, holds_on}
use Rattle.clock.proofs.row_at.Goals as goal

pub loop-next-init : goal.loop-next-init
unfolding row_at closed later_rows
loop-next-init c = refl

pub loop-next-preserved : goal.loop-next-preserved
unfolding later_rows closed
loop-next-preserved c =
    c.loop-next.invariant ∙ holds_next _ later_rows closed c.loop-next.next-index _ c.loop-next-test.true c.if-time-next.false

pub returns-after-loop-next : goal.returns-after-loop-next
unfolding later_rows
returns-after-loop-next c = sym (c.loop-next.invariant ∙ holds_on _ later_rows _ _ c.loop-next-test.false)

pub returns-then-time-next : goal.returns-then-time-next
unfolding later_rows closed
returns-then-time-next c =
    sym (c.loop-next.invariant ∙ holds_still _ later_rows closed c.loop-next.next-index _ c.loop-next-test.true c.if-time-next.true)
