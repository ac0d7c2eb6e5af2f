-- Each turn shows the next price; after five the lines are the side's.
use Prim.Native.Nat.{◌≤◌}
use lib.ListN.{length}
use Rattle.levels.proofs.Nexts.{Showing}
use Rattle.levels.proofs.levels_of.Given as goal

abbrev pub invariant-loop : goal.invariant-loop
invariant-loop l = (l.end ≤ length l.rows) × Showing l.side l.rows l.end l.at l.levels l.counter
