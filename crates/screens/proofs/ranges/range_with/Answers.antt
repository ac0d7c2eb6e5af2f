-- It goes on from the screen's, or begins with the first trade.
use Rattle.model.specs.Matching.{no_trade}
use lib.Seq.{get_or-take}
use native.Mathlib.Omega.{arith}
use Rattle.screens.proofs.Widening.{range_goes_on, range_nothing, range_begins}
use Rattle.screens.proofs.ranges.range_with.Goals as goal

pub returns-then-screen-ne0 : goal.returns-then-screen-ne0
returns-then-screen-ne0 c =
    range_goes_on c.args.screen c.args.trades.now c.args.n c.if-screen-ne0.true c.range_of.ensures

pub returns-then-n-eq0 : goal.returns-then-n-eq0
returns-then-n-eq0 c =
    range_nothing c.args.screen c.args.trades.now c.args.n c.if-screen-ne0.false c.if-n-eq0.true

pub returns : goal.returns
returns c =
    range_begins c.args.screen c.args.trades.now c.args.n c.if-screen-ne0.false c.if-n-eq0.false c.requires
    (get_or-take c.args.n c.args.trades.now 0 no_trade (omega arith)) c.range_of-2.ensures
