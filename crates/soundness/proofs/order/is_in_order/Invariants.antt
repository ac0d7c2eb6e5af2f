-- Those passed so far are in order; the rest is still to be told. Assumes nothing.
use Rattle.soundness.proofs.Following.{Followed}
use Rattle.soundness.proofs.order.is_in_order.Given as goal

abbrev pub invariant-loop-i : goal.invariant-loop-i
invariant-loop-i l = Followed l.rows l.i
