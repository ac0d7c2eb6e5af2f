-- Trade after trade.
use Rattle.screens.proofs.Widening.{Widening}
use Rattle.screens.proofs.ranges.range_of.Given as goal

abbrev pub invariant-loop-t : goal.invariant-loop-t
invariant-loop-t l = Widening l.trades l.initial.range l.range l.t-index
