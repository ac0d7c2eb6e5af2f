-- The reply's line is that of its numbers.
use Rattle.printing.proofs.Printed.{put_as}
use Rattle.printing.proofs.Replied.{open_line_lem}
use Rattle.printing.proofs.put_open.Goals as goal

pub returns : goal.returns
returns c =
    put_as (open_line_lem _ c.open_numbers-numbers.ensures) c.put_answer.ensures
