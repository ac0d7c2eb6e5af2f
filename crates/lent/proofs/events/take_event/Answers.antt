-- Each arm is the call on rows of its kind of event. Assumes nothing.
use Rattle.lent.proofs.ByKind.{opened, moved, entered, cancelled}
use Rattle.lent.proofs.events.take_event.Goals as goal

pub returns-in-Open : goal.returns-in-Open
returns-in-Open c =
    let a = c.args in
    opened a.asked a.book.now c.open_call.new.rows a.trades.now c.in-Open.is
    c.open_call.ensures

pub returns-in-Clock : goal.returns-in-Clock
returns-in-Clock c =
    let a = c.args in
    moved a.asked a.book.now c.clock_call.new.rows a.trades.now c.clock_call.new.trades
    c.in-Clock.is c.clock_call.ensures

pub returns-in-Order : goal.returns-in-Order
returns-in-Order c =
    let a = c.args in
    entered a.asked a.book.now c.order_call.new.rows a.trades.now
    c.order_call.new.trades c.in-Order.is
    c.order_call.ensures

pub returns-in-Cancel : goal.returns-in-Cancel
returns-in-Cancel c =
    let a = c.args in
    cancelled a.asked a.book.now c.cancel_call-answer.new.rows a.trades.now c.in-Cancel.is
    c.cancel_call-answer.ensures
