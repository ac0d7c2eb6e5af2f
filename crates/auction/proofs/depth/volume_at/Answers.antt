-- The smaller of the two parts of one pass.
use Rattle.auction.proofs.Sides.{pass_volume}
use Rattle.auction.proofs.depth.volume_at.Goals as goal

pub returns : goal.returns
returns c = pass_volume _ _ c.interest_at-both.ensures c.min.ensures
