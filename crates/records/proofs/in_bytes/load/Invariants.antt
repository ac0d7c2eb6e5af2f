-- The records read so far are the first of those that the bytes hold (`Filling`). Assumes nothing.
use Rattle.records.proofs.Rows.{Filling}
use Rattle.records.proofs.in_bytes.load.Given as goal

abbrev pub invariant-loop-i : goal.invariant-loop-i
invariant-loop-i g l = Filling g.T.FromBytes.of g.T.FromBytes.SIZE l.b l.initial.rows l.rows l.i
