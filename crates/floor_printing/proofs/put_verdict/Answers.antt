-- The verdict by its numbers. Assumes nothing.
use mathlib.Core.Path.{ap}
use Rattle.model.specs.Lines.{reply_line}
use Rattle.printing.proofs.Printed.{put_as}
use Rattle.floor_printing.proofs.put_verdict.Goals as goal

pub returns : goal.returns
returns c = put_as (ap (reply_line 74) c.verdict_numbers-numbers.ensures) c.put_answer.ensures
