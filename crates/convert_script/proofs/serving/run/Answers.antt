-- At the outset no line has begun; a turn that does not stop leaves what one chunk more leaves. Assumes nothing.
use Rattle.convert_script.proofs.Turns.{at_outset, reached_on}
use Rattle.convert_script.proofs.serving.run.Goals as goal

pub loop-init : goal.loop-init
loop-init g c = at_outset c.new-line.ensures

pub loop-preserved : goal.loop-preserved
loop-preserved g c = reached_on c.loop.invariant (c.turn.ensures c.if-not-turn.false)
