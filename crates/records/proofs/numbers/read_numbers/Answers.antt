-- `records::numbers::read_numbers` meets its contract: the invariant is `Loading`, over numbers of 8 bytes. Assumes nothing.
use native.Mathlib.Omega.{arith}
use Rattle.records.specs.Layout.{numbers}
use Rattle.records.proofs.Runs.{loading_start, loading_next, loading_end}
use Rattle.records.proofs.numbers.read_numbers.Goals as goal

pub loop-i-init : goal.loop-i-init
loop-i-init c = loading_start _ _ _ _ _

pub loop-i-preserved : goal.loop-i-preserved
loop-i-preserved c =
    let l = c.loop-i.invariant in loading_next _ _ _ _ _ l (omega (arith, l.long)) c.number_at.ensures

pub returns : goal.returns
unfolding numbers
returns c = let l = c.loop-i.invariant in loading_end _ _ _ _ _ l (omega (arith, l.long))
