-- What is left of the line is tidy, and closes up to what the trades leave of its orders.
use Rattle.fixed_book.proofs.Settling.{left_tidy, settled_close}
use Rattle.fixed_book.proofs.settle_at_close.Goals as goal

pub line_up-requires : goal.line_up-requires
line_up-requires c =
    rw c.take_off-void.ensures.rows_after (left_tidy _ _ _ c.args.rows.now c.requires.lined.fair)

pub returns : goal.returns
returns c =
    record {
      value = c.take_off-void.ensures.value;
      rows_after = settled_close c.args.close c.args.rows.now c.requires.lined c.requires.shares_value c.take_off-void.ensures.rows_after c.take_off-void.auto.rows
          c.line_up.ensures;
    }
