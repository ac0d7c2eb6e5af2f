-- `wire::changing::put_book_reply` meets its contract: the numbers of either reply are put. Assumes nothing.
use mathlib.Core.Path.{sym, ap, ◌∙◌}
use Rattle.wire.specs.Pairs.{book_numbers}
use Rattle.wire.proofs.Refused.{answered}
use Rattle.wire.proofs.changing.put_book_reply.Goals as goal

pub returns-in-Open : goal.returns-in-Open
unfolding book_numbers
returns-in-Open c =
    answered _ (c.open_numbers-row.ensures ∙ sym (ap book_numbers c.in-Open.is)) c.put_reply.ensures

pub returns-in-Cancel : goal.returns-in-Cancel
unfolding book_numbers
returns-in-Cancel c =
    answered _ (c.cancel_numbers-row.ensures ∙ sym (ap book_numbers c.in-Cancel.is)) c.put_reply-in-Cancel.ensures
