-- Round by round the point goes onward, and no more claims are noted than there is room for. Assumes nothing.
use Rattle.std.proofs.Common.{length, ◌-◌, ◌≤◌}
use Rattle.text.specs.Points.{Onward}
use Rattle.wishes.specs.Wishes.{floor}
use Rattle.floor_chunks.specs.Points.{point_of}
use Rattle.floor.proofs.serving.answer_chunk.Given as goal

abbrev pub invariant-loop-p : goal.invariant-loop-p
invariant-loop-p g l =
    (l.p.noted ≤ 4096)
    × Onward floor l.chunk (point_of l.initial.p l.initial.rows l.initial.claims) (point_of l.p l.rows l.claims)

abbrev pub decreases-loop-p : goal.decreases-loop-p
decreases-loop-p g l = length l.chunk - l.p.at
