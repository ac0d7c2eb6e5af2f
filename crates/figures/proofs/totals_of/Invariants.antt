-- `figures::totals_of` meets its contract: what is added up so far and what is still to come is the whole, so nothing
-- overflows on the way. Assumes nothing.
use lib.ListN.{drop}
use Rattle.figures.proofs.Tallies.{Adding}
use Rattle.figures.proofs.totals_of.Given as goal

abbrev pub invariant-loop-t : goal.invariant-loop-t
invariant-loop-t l = Adding l.trades (drop l.t-index l.trades) l.shares l.money
