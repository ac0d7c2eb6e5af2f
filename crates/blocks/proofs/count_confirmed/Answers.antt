-- Room for as many numbers as there are places.
use Prim.Native.Nat.{◌≤◌}
use mathlib.Core.Path.{sym}
use native.Mathlib.Omega.{arith}
use lib.ListN.{length}
use lib.Seq.{length-take-le}
use Rattle.blocks.proofs.count_confirmed.Goals as goal
use Rattle.blocks.proofs.count_confirmed.Goals.{Start}

few : (c : Start) → length c.args.rows.now ≤ 4_096
few c = omega (arith, c.requires.few)

pub slice_bounds-partner-end : goal.slice_bounds-partner-end
slice_bounds-partner-end c = omega (arith, few (goal.at.slice_bounds-partner-end c).Start)

pub slice_bounds-count_with-end : goal.slice_bounds-count_with-end
slice_bounds-count_with-end c = sym (length-take-le _ c.partner_room-partner.result (omega (arith, few (goal.at.slice_bounds-count_with-end c).Start)))

pub count_with-requires : goal.count_with-requires
count_with-requires c =
    record { declared = c.requires; partner_len = length-take-le _ c.partner_room-partner.result (omega (arith, few (goal.at.count_with-requires c).Start)) }
