-- `byte_trades::trading::trade_rows` meets its contract: either call, its answer as the answer of both. Assumes nothing.
use mathlib.Core.Path.{ap}
use Rattle.byte_trades.specs.Trading.{ordered, clocked, handed, trade_call}
use Rattle.byte_trades.proofs.trading.trade_rows.Goals as goal

pub returns-in-Order : goal.returns-in-Order
unfolding trade_call
returns-in-Order c =
    rw c.in-Order.is (ap (handed ordered) c.order_call-answer.ensures)

pub returns-in-Clock : goal.returns-in-Clock
unfolding trade_call
returns-in-Clock c =
    rw c.in-Clock.is (ap (handed clocked) c.clock_call-answer.ensures)
