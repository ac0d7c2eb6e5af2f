-- `lookup::pile_orders` meets its contract: place by place one order more lies on its pile. Assumes nothing.
use Prim.Native.Nat.{◌≤◌}
use mathlib.Core.Path.{◌≡◌}
use lib.ListN.{length}
use Rattle.lookup.specs.Piles.{Piled}
use Rattle.lookup.proofs.pile_orders.Given as goal

abbrev pub invariant-loop-i : goal.invariant-loop-i
invariant-loop-i l = (l.i ≤ length l.rows) × (length l.tops ≡ length l.initial.tops) × (length l.under ≡ length l.initial.under) × Piled l.rows l.i l.tops l.under
