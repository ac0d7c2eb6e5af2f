-- The line with six numbers.
use mathlib.Core.Path.{sym}
use mathlib.Core.List.{append-nil}
use Rattle.model.specs.Lines.{trade_lines}
use Rattle.printing.proofs.Printed.{put_as}
use Rattle.printing.proofs.put_trade.Goals as goal

pub returns : goal.returns
unfolding trade_lines
returns c = put_as (sym (append-nil _)) c.put_reply.ensures
