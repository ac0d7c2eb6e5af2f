-- The reply's line is that of its numbers.
use Rattle.printing.proofs.Printed.{put_as}
use Rattle.printing.proofs.Replied.{order_line_lem}
use Rattle.printing.proofs.put_order.Goals as goal

pub returns : goal.returns
returns c =
    put_as (order_line_lem _ c.order_numbers-numbers.ensures) c.put_answer.ensures
