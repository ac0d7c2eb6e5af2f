-- `wire::changing::flemorix_open` meets its contract: it is one of the two calls that change a book and make no trade. Assumes nothing.
use Rattle.wire.specs.Pairs.{change_leaves}
use Rattle.wire.proofs.changing.flemorix_open.Goals as goal

pub returns : goal.returns
unfolding change_leaves
returns c = c.change.ensures
