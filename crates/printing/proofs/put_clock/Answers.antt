-- The reply's line is that of its numbers.
use Rattle.printing.proofs.Printed.{put_as}
use Rattle.printing.proofs.Replied.{clock_line_lem}
use Rattle.printing.proofs.put_clock.Goals as goal

pub returns : goal.returns
returns c =
    put_as (clock_line_lem _ c.clock_numbers-numbers.ensures) c.put_answer.ensures
