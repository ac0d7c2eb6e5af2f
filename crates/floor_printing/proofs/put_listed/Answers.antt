-- The list's reply by its numbers. Assumes nothing.
use mathlib.Core.Path.{ap}
use Rattle.model.specs.Lines.{reply_line}
use Rattle.printing.proofs.Printed.{put_as}
use Rattle.floor_printing.proofs.put_listed.Goals as goal

pub returns : goal.returns
returns c = put_as (ap (reply_line 78) c.list_numbers-numbers.ensures) c.put_answer.ensures
