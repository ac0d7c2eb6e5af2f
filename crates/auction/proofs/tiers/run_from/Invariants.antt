-- What is added up so far, with the rest of the run, is the whole run.
use Rattle.auction.proofs.Leaving.{Adds}
use Rattle.auction.proofs.tiers.run_from.Given as goal

abbrev pub invariant-loop-at : goal.invariant-loop-at
invariant-loop-at l = Adds l.rows l.fn.from l.fn.end l.p l.sum l.at
