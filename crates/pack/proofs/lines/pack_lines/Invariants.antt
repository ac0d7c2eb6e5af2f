-- `pack::lines::pack_lines` meets its contract. Assumes nothing.
-- ---- the way back: from a line to its turn
use Prim.Native.Nat.{◌-◌}
use mathlib.Core.Path.{◌≡◌}
use lib.ListN.{length}
use Rattle.pack.specs.Promises.{start_of}
use Rattle.pack.proofs.LineByLine.{Going}
use Rattle.pack.proofs.lines.pack_lines.Given as goal

abbrev pub invariant-loop-next : goal.invariant-loop-next
invariant-loop-next l = (length l.block ≡ length l.initial.block) × (length l.out ≡ length l.initial.out) × (length l.said ≡ length l.initial.said) × Going l.chunk (start_of l.records l.line l.long) l.initial.block l.initial.out l.initial.said l.p l.block l.out l.said

abbrev pub decreases-loop-next : goal.decreases-loop-next
decreases-loop-next l = length l.chunk - l.p.at
