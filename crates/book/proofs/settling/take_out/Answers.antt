-- One place is closed up; those behind the orders are free already.
use native.Mathlib.Omega.{arith}
use Rattle.book.proofs.Parts.{parts_of}
use Rattle.book.proofs.Lines.{rows_length}
use Rattle.book.proofs.TakenOut.{out_of_order}
use Rattle.book.proofs.settling.take_out.Goals as goal

pub close_up-requires : goal.close_up-requires
close_up-requires c =
    let end = c.free_from-end.ensures in
    record { place_le_next = omega arith; next_le_end = omega (arith, end, c.requires.place_in_bounds); end_in_bounds = omega (arith, end, rows_length c.args.rows.now (parts_of _ c.requires.ranked)) }

pub returns : goal.returns
returns c =
    let end = c.free_from-end.ensures in
    out_of_order c.args.rows.now c.requires.ranked {place = c.args.place} end (omega (arith, end, c.requires.place_in_bounds)) c.close_up.ensures
