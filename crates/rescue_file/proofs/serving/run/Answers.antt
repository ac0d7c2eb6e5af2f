-- At the outset no block is behind; a turn that does not stop makes what one chunk more makes. Assumes nothing.
use Rattle.rescue_file.proofs.Turns.{at_outset, reached_on}
use Rattle.rescue_file.proofs.serving.run.Goals as goal

pub loop-init : goal.loop-init
loop-init g c = at_outset _

pub loop-preserved : goal.loop-preserved
loop-preserved g c = reached_on c.loop.invariant c.in-Some.ensures
