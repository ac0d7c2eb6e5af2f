-- The buys are the first places, the sells those behind them.
use native.Mathlib.Omega.{arith}
use Rattle.book.proofs.Fronts.{sides_end, off_the_buys}
use Rattle.book.proofs.settling.off_buys.Goals as goal

pub take_off-requires : goal.take_off-requires
take_off-requires c = let rest = sides_end c.args.rows.now c.requires c.sells_from-middle.ensures c.free_from-end.ensures in
    record { from_le_to = omega arith; to_le_end = rest.0; end_in_bounds = rest.1.0; free_from = rest.1.1 }

pub returns : goal.returns
returns c =
    off_the_buys c.args.rows.now c.requires c.sells_from-middle.ensures c.free_from-end.ensures _
    c.take_off.ensures
