-- Round by round the point goes onward, and each round passes some of the chunk. Assumes nothing.
use Rattle.std.proofs.Common.{length, ◌-◌}
use Rattle.text.specs.Answers.{rehearsal}
use Rattle.text.specs.Points.{Onward}
use Rattle.chunks.specs.Points.{point_of}
use Rattle.rehearse.proofs.serving.answer_chunk.Given as goal

abbrev pub invariant-loop-p : goal.invariant-loop-p
invariant-loop-p g l = Onward rehearsal l.chunk (point_of l.initial.p l.initial.rows) (point_of l.p l.rows)

abbrev pub decreases-loop-p : goal.decreases-loop-p
decreases-loop-p g l = length l.chunk - l.p.at
