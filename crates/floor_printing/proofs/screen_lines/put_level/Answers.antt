-- Nothing, or a line of two numbers. Assumes nothing.
use Rattle.printing.proofs.Printed.{put_as}
use Rattle.floor_printing.proofs.Screening.{unused_put, used_line}
use Rattle.floor_printing.proofs.screen_lines.put_level.Goals as goal

pub returns-then-l-eq0 : goal.returns-then-l-eq0
returns-then-l-eq0 c =
    unused_put c.args.letter c.args.l c.if-l-eq0.true

pub returns : goal.returns
returns c =
    put_as (used_line c.args.letter c.args.l c.if-l-eq0.false) c.put_reply.ensures
