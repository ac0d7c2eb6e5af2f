-- What is put fits: the trades first, then a line. Assumes nothing.
use native.Mathlib.Omega.{arith}
use Rattle.printing.proofs.Replied.{open_fits, clock_fits, order_fits, cancel_fits}
use Rattle.printing.proofs.Printed.{line_within}
use Rattle.sixteen_places.proofs.Fits.{room_behind}
use Rattle.sixteen_places.proofs.showing.put_lines.Goals as goal

pub put_clock-requires : goal.put_clock-requires
put_clock-requires c =
    let s = c.args in
    let n = c.at_most_sixteen in
    room_behind s.trades.now n.result c.put_trades-at.ensures n.ensures (omega arith) (omega arith)

pub put_order-requires : goal.put_order-requires
put_order-requires c =
    let s = c.args in
    let n = c.at_most_sixteen-in-Order in
    room_behind s.trades.now n.result c.put_trades-at-in-Order.ensures n.ensures (omega arith) (omega arith)

pub returns-in-Open : goal.returns-in-Open
returns-in-Open c = line_within c.put_open.ensures (open_fits _) (omega arith)

pub returns-in-Clock : goal.returns-in-Clock
returns-in-Clock c =
    let s = c.args in
    let n = c.at_most_sixteen in
    let w = c.put_trades-at.ensures in
    line_within c.put_clock.ensures (clock_fits _)
    (room_behind s.trades.now n.result w n.ensures (omega arith) (omega arith))

pub returns-in-Order : goal.returns-in-Order
returns-in-Order c =
    let s = c.args in
    let n = c.at_most_sixteen-in-Order in
    let w = c.put_trades-at-in-Order.ensures in
    line_within c.put_order.ensures (order_fits _)
    (room_behind s.trades.now n.result w n.ensures (omega arith) (omega arith))

pub returns-in-Cancel : goal.returns-in-Cancel
returns-in-Cancel c = line_within c.put_cancel.ensures (cancel_fits _ _) (omega arith)
