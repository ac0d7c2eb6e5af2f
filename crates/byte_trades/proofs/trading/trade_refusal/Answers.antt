-- `byte_trades::trading::trade_refusal` meets its contract: each case is one clause of the definition. Assumes nothing.
use Rattle.byte_trades.specs.Trading.{trade_refusal}
use Rattle.byte_trades.proofs.trading.trade_refusal.Goals as goal

pub returns-in-Order : goal.returns-in-Order
unfolding trade_refusal
returns-in-Order c = rw c.in-Order.is

pub returns-in-Clock : goal.returns-in-Clock
unfolding trade_refusal
returns-in-Clock c = rw c.in-Clock.is
