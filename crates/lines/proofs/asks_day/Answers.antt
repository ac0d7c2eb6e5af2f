-- An arm for each form of a line. Assumes nothing.
use Rattle.desk.specs.Desks.{asks_day}
use Rattle.lines.proofs.asks_day.Goals as goal

pub returns-in-Malformed : goal.returns-in-Malformed
unfolding asks_day
returns-in-Malformed c = rw c.in-Malformed.is

pub returns-in-Open : goal.returns-in-Open
unfolding asks_day
returns-in-Open c = rw (c.in-Asks.is, c.in-Open.is)

pub returns-in-Clock : goal.returns-in-Clock
unfolding asks_day
returns-in-Clock c = rw (c.in-Asks.is, c.in-Clock.is)

pub returns-in-Order : goal.returns-in-Order
unfolding asks_day
returns-in-Order c = rw (c.in-Asks.is, c.in-Order.is)

pub returns-in-Cancel : goal.returns-in-Cancel
unfolding asks_day
returns-in-Cancel c = rw (c.in-Asks.is, c.in-Cancel.is)
