-- The trades made so far, with those still to come, are the auction's (`Underway`); the volume that is left falls with each.
use Rattle.pairing.proofs.Dealing.{Underway}
use Rattle.pairing.proofs.pair_at.Given as goal

abbrev pub invariant-loop-left : goal.invariant-loop-left
invariant-loop-left l = Underway l.rows l.middle l.end l.price l.initial.trades l.left l.buy l.sell l.made l.trades

abbrev pub decreases-loop-left : goal.decreases-loop-left
decreases-loop-left l = l.left
