-- `figures::totals_of` meets its contract: what is added up so far and what is still to come is the whole, so nothing
-- overflows on the way. Assumes nothing.
use native.Mathlib.Omega.{arith}
use Rattle.figures.proofs.Tallies.{adding_start, adding_next, adding_fits, adding_over}
use Rattle.figures.proofs.totals_of.Goals as goal

pub loop-t-init : goal.loop-t-init
loop-t-init c = adding_start _

pub overflow_add-shares : goal.overflow_add-shares
overflow_add-shares c = omega (arith, adding_fits _ _ _ _ c.loop-t-test.true c.loop-t.invariant)

pub overflow_mul-money : goal.overflow_mul-money
overflow_mul-money c = omega (arith, adding_fits _ _ _ _ c.loop-t-test.true c.loop-t.invariant)

pub overflow_add-money : goal.overflow_add-money
overflow_add-money c = omega (arith, adding_fits _ _ _ _ c.loop-t-test.true c.loop-t.invariant)

pub loop-t-preserved : goal.loop-t-preserved
loop-t-preserved c = adding_next _ _ _ _ c.loop-t-test.true c.loop-t.invariant

pub returns : goal.returns
returns c = adding_over _ _ _ _ c.loop-t-test.false c.loop-t.invariant
