-- `wire::trading::flemorix_order` meets its contract: it is one of the two calls that trade. Assumes nothing.
use Rattle.wire.specs.Pairs.{either_leaves}
use Rattle.wire.proofs.trading.flemorix_order.Goals as goal

pub returns : goal.returns
unfolding either_leaves
returns c = c.trade.ensures
