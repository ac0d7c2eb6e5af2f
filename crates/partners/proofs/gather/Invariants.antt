-- `partners::gather` meets its contract: place by place, what is gathered and what is left stay the whole. Assumes nothing.
use lib.ListN.{length}
use Rattle.partners.proofs.Gathering.{Gathering}
use Rattle.partners.proofs.gather.Given as goal

abbrev pub invariant-loop-i : goal.invariant-loop-i
invariant-loop-i l = Gathering l.side l.rows (length l.initial.places) l.places l.count l.i
