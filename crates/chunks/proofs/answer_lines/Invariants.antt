-- The replies put so far answer the chunk up to the place that is reached; one more line is one more reply. Assumes nothing.
use Prim.Native.Nat.{◌-◌}
use mathlib.Core.Path.{◌≡◌}
use lib.ListN.{length}
use Rattle.chunks.specs.Points.{point_of}
use Rattle.text.specs.Answers.{rehearsal}
use Rattle.text.proofs.LineByLine.{Going}
use Rattle.chunks.proofs.answer_lines.Given as goal

abbrev pub invariant-loop-p : goal.invariant-loop-p
invariant-loop-p l =
    (length l.rows ≡ length l.initial.rows) × (length l.trades ≡ length l.initial.trades) × (length l.out ≡ length l.initial.out) × Going rehearsal l.chunk (point_of l.initial.p l.initial.rows) l.initial.out l.out l.p.next l.p.done (point_of l.p l.rows)

abbrev pub decreases-loop-p : goal.decreases-loop-p
decreases-loop-p l = length l.chunk - l.p.at
