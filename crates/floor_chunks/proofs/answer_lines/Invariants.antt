-- The replies put so far answer the chunk up to the place that is reached; one more line is one more reply. Assumes nothing.
-- ---- the way back: from a line to its turn, and from a turn to the start
use Prim.Native.Nat.{◌-◌, ◌≤◌}
use mathlib.Core.Path.{◌≡◌}
use lib.ListN.{length}
use Rattle.text.proofs.LineByLine.{Going}
use Rattle.wishes.specs.Wishes.{floor}
use Rattle.floor_chunks.specs.Points.{point_of}
use Rattle.floor_chunks.proofs.answer_lines.Given as goal

abbrev pub invariant-loop-p : goal.invariant-loop-p
invariant-loop-p l =
    (length l.rows ≡ length l.initial.rows) × (length l.trades ≡ length l.initial.trades) × (length l.claims ≡ length l.initial.claims) × (length l.out ≡ length l.initial.out) × (l.p.noted ≤ 4096)
    × Going floor l.chunk (point_of l.initial.p l.initial.rows l.initial.claims) l.initial.out l.out l.p.next l.p.done (point_of l.p l.rows l.claims)

abbrev pub decreases-loop-p : goal.decreases-loop-p
decreases-loop-p l = length l.chunk - l.p.at
