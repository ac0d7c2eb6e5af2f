-- At the outset no day is open; a turn that does not stop makes what one chunk more makes. Assumes nothing.
use Rattle.std.proofs.Math.Option.{none}
use Rattle.text.specs.Answers.{rehearsal}
use Rattle.text.proofs.Turns.{at_outset, reached_on}
use Rattle.rehearse.proofs.serving.run.Goals as goal

pub loop-init : goal.loop-init
loop-init g c = at_outset rehearsal none _

pub loop-preserved : goal.loop-preserved
loop-preserved g c = reached_on rehearsal c.loop.invariant (c.turn-h.ensures c.if-h.false)
