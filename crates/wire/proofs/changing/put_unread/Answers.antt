-- `wire::changing::put_unread` meets its contract: the numbers of either refusal are put. Assumes nothing.
use mathlib.Core.Path.{sym, ap, ◌∙◌}
use Rattle.wire.specs.Pairs.{unread_numbers}
use Rattle.wire.proofs.Refused.{answered}
use Rattle.wire.proofs.changing.put_unread.Goals as goal

pub returns-in-Open : goal.returns-in-Open
unfolding unread_numbers
returns-in-Open c =
    answered _ (c.open_numbers-row.ensures ∙ sym (ap unread_numbers c.in-Open.is)) c.put_reply.ensures

pub returns-in-Cancel : goal.returns-in-Cancel
unfolding unread_numbers
returns-in-Cancel c =
    answered _ (c.cancel_numbers-row.ensures ∙ sym (ap unread_numbers c.in-Cancel.is)) c.put_reply-in-Cancel.ensures
