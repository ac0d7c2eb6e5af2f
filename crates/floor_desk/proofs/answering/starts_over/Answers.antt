-- An arm for each form of a line. Assumes nothing.
use mathlib.Core.Path.{◌∙◌, sym}
use Rattle.floor_desk.specs.Floors.{starts_over}
use Rattle.floor_desk.proofs.Wishes.{opens, opens_not}
use Rattle.floor_desk.proofs.answering.starts_over.Goals as goal

pub returns-in-Malformed : goal.returns-in-Malformed
unfolding starts_over
returns-in-Malformed c = rw c.in-Malformed.is

pub returns-then-is_price : goal.returns-then-is_price
returns-then-is_price c = opens c.in-Asks.is c.in-Open.is (sym c.is_price.ensures ∙ c.if-is_price.true)

pub returns-else-is_price : goal.returns-else-is_price
returns-else-is_price c = c.if-is_price.false ∙ opens_not c.in-Asks.is c.in-Open.is (sym c.is_price.ensures ∙ c.if-is_price.false)

pub returns-in-Clock : goal.returns-in-Clock
unfolding starts_over
returns-in-Clock c = rw (c.in-Asks.is, c.in-Clock.is)

pub returns-in-Order : goal.returns-in-Order
unfolding starts_over
returns-in-Order c = rw (c.in-Asks.is, c.in-Order.is)

pub returns-in-Cancel : goal.returns-in-Cancel
unfolding starts_over
returns-in-Cancel c = rw (c.in-Asks.is, c.in-Cancel.is)
