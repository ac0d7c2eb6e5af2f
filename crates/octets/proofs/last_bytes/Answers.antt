-- `octets::last_bytes` meets its contract: the invariant is `Writing`. Assumes nothing.
use native.Mathlib.Omega.{arith}
use Rattle.octets.proofs.Put.{writing_start, writing_next, writing_end}
use Rattle.octets.proofs.last_bytes.Goals as goal

pub loop-byte-init : goal.loop-byte-init
loop-byte-init g c = writing_start _ _

pub loop-byte-preserved : goal.loop-byte-preserved
loop-byte-preserved g c =
    let w = c.loop-byte.invariant in writing_next _ _ w (omega (arith, w.long))

pub returns : goal.returns
returns g c = let w = c.loop-byte.invariant in writing_end _ _ w (omega (arith, w.long))
