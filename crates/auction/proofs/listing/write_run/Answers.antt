-- The first i of the prices stand in front of the rest of the lent list.
use Rattle.auction.proofs.Writing.{filled_start, filled_next, filled_end}
use Rattle.auction.proofs.listing.write_run.Goals as goal

pub loop-i-init : goal.loop-i-init
loop-i-init c = filled_start _ _ _ c.requires.0

pub loop-i-preserved : goal.loop-i-preserved
loop-i-preserved c = filled_next _ _ _ c.loop-i.invariant c.loop-i-test.true

pub returns : goal.returns
returns c = filled_end _ _ _ c.loop-i.invariant c.loop-i-test.false
