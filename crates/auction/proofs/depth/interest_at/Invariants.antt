-- What is added up so far, with what the rest of the book brings, is the whole.
use Rattle.auction.proofs.Sides.{Passed}
use Rattle.auction.proofs.depth.interest_at.Given as goal

abbrev pub invariant-loop-o : goal.invariant-loop-o
invariant-loop-o l = Passed l.rows l.least l.most l.demand l.supply l.o-index
