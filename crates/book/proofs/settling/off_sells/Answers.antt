-- The sells stand between the buys and the free places.
use native.Mathlib.Omega.{arith}
use Rattle.book.proofs.Fronts.{sides_end, off_the_sells}
use Rattle.book.proofs.settling.off_sells.Goals as goal

pub take_off-requires : goal.take_off-requires
take_off-requires c =
    let ends = sides_end c.args.rows.now c.requires c.sells_from-middle.ensures c.free_from-end.ensures in
    record { from_le_to = ends.0; to_le_end = omega arith; end_in_bounds = ends.1.0; free_from = ends.1.1 }

pub returns : goal.returns
returns c =
    off_the_sells c.args.rows.now c.requires c.sells_from-middle.ensures c.free_from-end.ensures _
    c.take_off.ensures
