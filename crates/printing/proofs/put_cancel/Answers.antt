-- The number that was asked for stands after the refusal's.
use Rattle.printing.proofs.Printed.{put_as}
use Rattle.printing.proofs.Replied.{cancel_line_lem}
use Rattle.printing.proofs.put_cancel.Goals as goal

pub returns : goal.returns
returns c =
    put_as (cancel_line_lem c.args.number _ c.cancel_numbers-withdrawn.ensures) c.put_answer.ensures
