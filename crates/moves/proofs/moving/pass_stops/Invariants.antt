-- `moves::moving::pass_stops` meets its contract: at each turn memory holds the state that the definitions reach at the second `from`, and
-- nothing is due up to the next stop. Assumes nothing.
use Prim.Native.Nat.{◌-◌, ◌≤◌}
use mathlib.Core.Path.{◌≡◌}
use lib.ListN.{length}
use Rattle.moves.specs.Stops.{next_stop}
use Rattle.moves.proofs.ClockLaws.{At}
use Rattle.moves.proofs.moving.pass_stops.Given as goal

abbrev pub invariant-loop-stop : goal.invariant-loop-stop
invariant-loop-stop l =
    (l.initial.p.day.time ≤ l.from)
    × ((l.from ≤ l.time)
    × ((length l.rows ≡ length l.initial.rows)
    × ((length l.trades ≡ length l.initial.trades) × ((l.stop ≡ next_stop l.p.day.halt l.from l.time) × At l.initial.p.day l.initial.rows l.initial.trades l.from l.p l.rows l.trades))))

abbrev pub decreases-loop-stop : goal.decreases-loop-stop
decreases-loop-stop l = l.time - l.from
