-- The records read so far are the first of those that the bytes hold (`Filling`). Assumes nothing.
use mathlib.Core.Path.{refl}
use native.Mathlib.Omega.{arith}
use Rattle.records.proofs.Rows.{filling_next, filling_end}
use Rattle.records.proofs.in_bytes.load.Goals as goal

pub loop-i-preserved : goal.loop-i-preserved
loop-i-preserved g c = filling_next _ _ _ _ c.loop-i.invariant (omega arith) (rw c.SIZE.ensures at c.read.ensures) refl

pub returns : goal.returns
returns g c = filling_end _ _ _ _ c.loop-i.invariant (omega arith)
