-- Place by place: what is summed and what is left to sum make the whole, which is small enough.
use Rattle.soundness.proofs.Totals.{Summed}
use Rattle.soundness.proofs.places.shares_left.Given as goal

abbrev pub invariant-loop-o : goal.invariant-loop-o
invariant-loop-o l = Summed l.rows l.sum l.o-index
