-- The first i of the prices stand in front of the rest of the lent list.
use Rattle.auction.proofs.Writing.{Filled}
use Rattle.auction.proofs.listing.write_run.Given as goal

abbrev pub invariant-loop-i : goal.invariant-loop-i
invariant-loop-i l = Filled l.run.first l.run.count l.initial.prices l.prices l.i
