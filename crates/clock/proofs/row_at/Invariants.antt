-- `clock::row_at` meets its contract: at each turn the row that is held and those still to come decide the row of the whole table.
use mathlib.Core.Path.{◌≡◌}
use lib.ListN.{drop}
use Rattle.model.specs.Clock.{holding, row_at}
use Rattle.clock.proofs.row_at.Given as goal

abbrev pub invariant-loop-next : goal.invariant-loop-next
invariant-loop-next l = row_at l.time ≡ holding l.held (drop l.next-index l.next-items) l.time
