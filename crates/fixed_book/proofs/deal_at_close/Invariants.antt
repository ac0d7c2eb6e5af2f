-- The trades made so far, with those still to come, are the line's (`Underway`); the two sides still to trade grow shorter with each.
use Rattle.fixed_book.proofs.Dealing.{Underway, waiting}
use Rattle.fixed_book.proofs.deal_at_close.Given as goal

abbrev pub invariant-loop-quantity : goal.invariant-loop-quantity
invariant-loop-quantity l =
    Underway l.close l.rows l.initial.trades l.buy l.sell l.quantity l.made l.shares l.trades

abbrev pub decreases-loop-quantity : goal.decreases-loop-quantity
decreases-loop-quantity l =
    waiting l.close l.rows l.buy l.sell
