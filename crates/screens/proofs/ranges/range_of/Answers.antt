-- Trade after trade.
use Rattle.screens.proofs.Widening.{widening_start, widening_next, widening_end}
use Rattle.screens.proofs.ranges.range_of.Goals as goal

pub loop-t-init : goal.loop-t-init
loop-t-init c = widening_start c.args.trades.now c.args.start

pub loop-t-preserved : goal.loop-t-preserved
loop-t-preserved c = widening_next c.args.trades.now c.loop-t.invariant c.loop-t-test.true c.widen-range.ensures

pub returns : goal.returns
returns c = widening_end c.args.trades.now c.loop-t.invariant c.loop-t-test.false
