-- What the orders keep stands together once those behind are moved up.
use Rattle.book.proofs.Closing.{taken_off}
use Rattle.book.proofs.settling.take_off.Goals as goal

pub returns : goal.returns
returns c =
    taken_off c.args.rows.now c.cut_front-at.new.rows c.requires.to_le_end c.requires.end_in_bounds
    c.cut_front-at.auto.rows c.requires.free_from c.cut_front-at.ensures c.close_up.ensures
