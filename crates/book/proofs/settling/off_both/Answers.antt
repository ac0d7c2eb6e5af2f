-- The buys have not moved when shares come off the sells.
use native.Mathlib.Omega.{arith}
use Rattle.book.proofs.Fronts.{sides_end, off_the_sells, still_free, off_both_sides}
use Rattle.book.proofs.settling.off_both.Goals as goal

pub take_off-requires : goal.take_off-requires
take_off-requires c =
    let ends = sides_end c.args.rows.now c.requires c.sells_from-middle.ensures c.free_from-end.ensures in
    record { from_le_to = ends.0; to_le_end = omega arith; end_in_bounds = ends.1.0; free_from = ends.1.1 }

pub take_off-requires-2 : goal.take_off-requires-2
take_off-requires-2 c =
    let rows = c.args.rows.now in
    let em = c.sells_from-middle.ensures in
    let en = c.free_from-end.ensures in
    let ends = sides_end rows c.requires em en in record { from_le_to = omega arith; to_le_end = ends.0; end_in_bounds = omega (arith, ends.1.0, c.take_off.auto.rows); free_from = still_free rows c.requires em en _ c.take_off.new.rows (off_the_sells rows c.requires em en _ c.take_off.ensures) }

pub returns : goal.returns
returns c =
    let rows = c.args.rows.now in
    let em = c.sells_from-middle.ensures in
    let en = c.free_from-end.ensures in
    off_both_sides rows c.requires em en _ c.take_off.new.rows (off_the_sells rows c.requires em en _ c.take_off.ensures)
    c.take_off-2.ensures
