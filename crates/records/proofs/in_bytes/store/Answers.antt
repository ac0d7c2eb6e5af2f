-- The records written so far stand one behind the other (`Emptying`). Assumes nothing.
use native.Mathlib.Omega.{arith}
use Rattle.records.proofs.Rows.{emptying_next, emptying_end}
use Rattle.records.proofs.in_bytes.store.Goals as goal

pub loop-i-preserved : goal.loop-i-preserved
loop-i-preserved g c =
    let x = c.index-rows-i in
    emptying_next _ _ _ _ x.result c.loop-i.invariant (omega arith) x.is (g.met.T.ToBytes.long x.result) (rw c.SIZE.ensures at c.put.ensures)

pub returns : goal.returns
returns g c = emptying_end _ _ _ _ c.loop-i.invariant (omega arith)
