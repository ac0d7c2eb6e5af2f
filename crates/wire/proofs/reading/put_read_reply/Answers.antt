-- `wire::reading::put_read_reply` meets its contract: the numbers of either reply are put. Assumes nothing.
use mathlib.Core.Path.{sym, ap, ◌∙◌}
use Rattle.model.specs.Replies.{list_numbers}
use Rattle.wire.specs.Pairs.{read_numbers}
use Rattle.wire.proofs.Refused.{answered}
use Rattle.wire.proofs.reading.put_read_reply.Goals as goal

pub returns-in-Report : goal.returns-in-Report
unfolding read_numbers
returns-in-Report c =
    answered _ (c.report_numbers-row.ensures ∙ sym (ap read_numbers c.in-Report.is)) c.put_reply.ensures

pub returns-in-List : goal.returns-in-List
unfolding read_numbers
returns-in-List c =
    answered _ (c.list_numbers-row.ensures ∙ ap list_numbers c.list_reply.ensures ∙ sym (ap read_numbers c.in-List.is)) c.put_reply-in-List.ensures
