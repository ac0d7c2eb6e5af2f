-- `file_scripts::put_event` meets its contract. Assumes nothing.
use Rattle.printing.proofs.Printed.{put_as}
use Rattle.file_scripts.proofs.Lines.{line_open, line_clock, line_order, line_cancel}
use Rattle.file_scripts.proofs.put_event.Goals as goal

pub returns-in-Open : goal.returns-in-Open
returns-in-Open c = put_as (line_open c.in-Open.is) c.put_reply.ensures

pub returns-in-Clock : goal.returns-in-Clock
returns-in-Clock c = put_as (line_clock c.in-Clock.is) c.put_reply-in-Clock.ensures

pub returns-in-Order : goal.returns-in-Order
returns-in-Order c = put_as (line_order c.in-Order.is) c.put_reply-in-Order.ensures

pub returns-in-Cancel : goal.returns-in-Cancel
returns-in-Cancel c = put_as (line_cancel c.in-Cancel.is) c.put_reply-in-Cancel.ensures
