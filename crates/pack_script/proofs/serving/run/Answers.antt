-- At the outset no record waits; a turn that does not stop makes what one chunk more makes. Assumes nothing.
use Rattle.pack_script.proofs.Turns.{at_outset, reached_on}
use Rattle.pack_script.proofs.serving.run.Goals as goal

pub loop-init : goal.loop-init
loop-init g c = at_outset _ _ c.block-filling.ensures

pub loop-preserved : goal.loop-preserved
loop-preserved g c = reached_on c.loop.invariant c.in-Some.ensures
