-- `wire::changing::put_brought` meets its contract: the day that the reply has is put, or the old one stays. Assumes nothing.
use Rattle.wire.specs.Exports.{day_left}
use Rattle.wire.specs.Pairs.{day_by}
use Rattle.wire.proofs.changing.put_brought.Goals as goal

pub returns-in-Cancel : goal.returns-in-Cancel
unfolding day_by
returns-in-Cancel c =
    rw c.in-Cancel.is c.put_day.ensures

pub returns-in-Refused : goal.returns-in-Refused
unfolding day_by day_left
returns-in-Refused c = rw (c.in-Open.is, c.in-Refused.is)

pub returns-in-Opened : goal.returns-in-Opened
unfolding day_by day_left
returns-in-Opened c =
    rw (c.in-Open.is, c.in-Opened.is) c.put_day-in-Opened.ensures
