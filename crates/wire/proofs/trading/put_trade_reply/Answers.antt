-- `wire::trading::put_trade_reply` meets its contract: the numbers of either reply are put. Assumes nothing.
use mathlib.Core.Path.{sym, ap, ◌∙◌}
use Rattle.wire.specs.Pairs.{trade_numbers}
use Rattle.wire.proofs.Refused.{answered}
use Rattle.wire.proofs.trading.put_trade_reply.Goals as goal

pub returns-in-Order : goal.returns-in-Order
unfolding trade_numbers
returns-in-Order c =
    answered _ (c.order_numbers-row.ensures ∙ sym (ap trade_numbers c.in-Order.is)) c.put_reply.ensures

pub returns-in-Clock : goal.returns-in-Clock
unfolding trade_numbers
returns-in-Clock c =
    answered _ (c.clock_numbers-row.ensures ∙ sym (ap trade_numbers c.in-Clock.is)) c.put_reply-in-Clock.ensures
