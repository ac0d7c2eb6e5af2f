-- `judging::calls::claims_right` meets its contract: rooms for the piles and for as many numbers as the book has places. Assumes nothing.
use Prim.Native.Nat.{◌≤◌}
use mathlib.Core.Path.{sym}
use native.Mathlib.Omega.{arith}
use lib.ListN.{length}
use lib.Seq.{length-take-le}
use Rattle.lookup.proofs.Piling.{none_length}
use Rattle.judging.proofs.calls.claims_right.Goals as goal
use Rattle.judging.proofs.calls.claims_right.Goals.{Start}

few : (c : Start) → length c.args.rows.now ≤ 4_096
few c = omega (arith, c.requires.few)

pub slice_bounds-slate-end : goal.slice_bounds-slate-end
slice_bounds-slate-end c = omega (arith, few (goal.at.slice_bounds-slate-end c).Start)

pub slice_bounds-claims_decide-end-3 : goal.slice_bounds-claims_decide-end-3
slice_bounds-claims_decide-end-3 c = sym (length-take-le _ c.slate_room-slate.result (omega (arith, few (goal.at.slice_bounds-claims_decide-end-3 c).Start)))

pub claims_decide-requires : goal.claims_decide-requires
claims_decide-requires c =
    record { ranked = c.requires; tops_value = c.none_yet-tops.ensures; rows_in_bounds = omega (arith, few (goal.at.claims_decide-requires c).Start, none_length 4_096 c.none_yet-under.ensures); slate_len = length-take-le _ c.slate_room-slate.result (omega (arith, few (goal.at.claims_decide-requires c).Start)) }
