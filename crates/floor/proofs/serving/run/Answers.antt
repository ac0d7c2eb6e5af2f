-- At the outset no day is open and no claim is noted; a turn that does not stop makes what one chunk more makes. Assumes nothing.
use Rattle.std.proofs.Common.{arith}
use Rattle.text.proofs.Turns.{reached_on}
use Rattle.wishes.specs.Wishes.{floor}
use Rattle.floor.proofs.Outset.{at_first}
use Rattle.floor.proofs.serving.run.Goals as goal

pub loop-init : goal.loop-init
loop-init g c = (omega arith, at_first c.places-rows.result c.claim_list-claims.result _)

pub loop-preserved : goal.loop-preserved
loop-preserved g c =
    let t = c.turn-h.ensures c.if-h.false in
    (t.1, reached_on floor c.loop.invariant.1 t.0)
