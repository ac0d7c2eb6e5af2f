-- `judging::grants::grant_rows` meets its contract: what is written and what is still to come is the whole. Assumes nothing.
use mathlib.Core.Path.{◌≡◌}
use lib.ListN.{length}
use Rattle.judging.specs.Slates.{grants_by}
use Rattle.judging.proofs.Granting.{Granted}
use Rattle.judging.proofs.grants.grant_rows.Given as goal

abbrev pub invariant-loop-i : goal.invariant-loop-i
invariant-loop-i l =
    (length l.slate ≡ length l.initial.slate) × Granted l.rows (grants_by (record { buys = l.shares; sells = l.shares }) l.rows) l.slate l.v l.i
