-- `lookup::place_by` meets its contract: down the pile the place that is looked for stays the same. Assumes nothing.
use Rattle.lookup.proofs.Seeking.{Sought}
use Rattle.lookup.proofs.place_by.Given as goal

abbrev pub invariant-loop-at : goal.invariant-loop-at
invariant-loop-at l = Sought l.number l.rows l.at

abbrev pub decreases-loop-at : goal.decreases-loop-at
decreases-loop-at l = l.at
