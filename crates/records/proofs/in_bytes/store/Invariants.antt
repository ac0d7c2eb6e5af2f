-- The records written so far stand one behind the other (`Emptying`). Assumes nothing.
use Rattle.records.proofs.Rows.{Emptying}
use Rattle.records.proofs.in_bytes.store.Given as goal

abbrev pub invariant-loop-i : goal.invariant-loop-i
invariant-loop-i g l = Emptying g.T.ToBytes.bytes g.T.ToBytes.SIZE l.rows l.initial.b l.b l.i
