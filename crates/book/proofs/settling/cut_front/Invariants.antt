-- The rows stay until the shares end; what comes off from here on is what was to come off at first.
use mathlib.Core.Path.{◌≡◌}
use Rattle.book.proofs.Closing.{Ending}
use Rattle.book.proofs.settling.cut_front.Given as goal

abbrev pub invariant-loop-at : goal.invariant-loop-at
invariant-loop-at l = (l.rows ≡ l.initial.rows) × Ending l.shares l.from l.to l.rows l.left l.at
