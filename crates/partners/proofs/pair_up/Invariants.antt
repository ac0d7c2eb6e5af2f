-- `partners::pair_up` meets its contract: head by head the trades so far and those of the rest stay the whole. Assumes nothing.
use Prim.Native.Nat.{◌+◌, ◌-◌}
use lib.ListN.{length}
use Rattle.partners.proofs.Meeting.{Met}
use Rattle.partners.proofs.pair_up.Given as goal

abbrev pub invariant-loop-i : goal.invariant-loop-i
invariant-loop-i l = Met l.rows l.buyers l.sellers l.partner l.i l.j

abbrev pub decreases-loop-i : goal.decreases-loop-i
decreases-loop-i l = (length l.buyers - l.i) + (length l.sellers - l.j)
