-- No day is 17; else the lines of the trades that were made, and the line of the reply after them. Assumes nothing.
use native.Mathlib.Omega.{arith}
use Rattle.model.specs.declared.Event.TheVariants.{Order}
use Rattle.model.specs.Session.{order_answer, event_answer, answer}
use Rattle.printing.proofs.Printed.{put_long}
use Rattle.printing.proofs.Replied.{trades_room}
use Rattle.desk.proofs.Answers.{on_day, order_made, no_day_lem, no_trades_lem, order_answered}
use Rattle.desk.proofs.answering.answer_order.Goals as goal

pub returns-in_default : goal.returns-in_default
unfolding answer event_answer
returns-in_default c =
    let s = c.args in
    let r = c.refuse in
    let n = c.in_default.is in
    record {
      leaves = no_day_lem s.desk s.rows.now (order_answer s.a) _ (omega arith) n r.ensures.0 r.ensures.1;
      list = no_trades_lem s.desk s.rows.now (Order s.a) s.trades.now n;
    }

pub order_sound-answer-requires : goal.order_sound-answer-requires
order_sound-answer-requires c =
    on_day c.args.desk c.args.rows.now c.in-Open.is c.requires.2

pub put_trades-after-requires : goal.put_trades-after-requires
put_trades-after-requires c =
    let m = order_made _ c.args.rows.now c.args.trades.now c.order_sound-answer.new.rows c.order_sound-answer.new.trades c.args.a c.order_sound-answer.ensures in
    (m, omega (arith, c.requires, c.order_sound-answer.auto.trades))

pub put_order-next-requires : goal.put_order-next-requires
put_order-next-requires c =
    let w = c.put_trades-after.ensures in
    let m = order_made _ c.args.rows.now c.args.trades.now c.order_sound-answer.new.rows c.order_sound-answer.new.trades c.args.a c.order_sound-answer.ensures in
    omega (arith, c.requires, c.order_sound-answer.auto.trades, trades_room c.order_sound-answer.new.trades c.order_sound-answer.result.made w m, put_long w)

pub returns : goal.returns
returns c =
    let w = c.put_trades-after.ensures in
    let m = order_made _ c.args.rows.now c.args.trades.now c.order_sound-answer.new.rows c.order_sound-answer.new.trades c.args.a c.order_sound-answer.ensures in
    order_answered c.args.desk c.args.rows.now c.order_sound-answer.new.rows _ c.in-Open.is c.args.trades.now c.order_sound-answer.new.trades c.requires.0
    (omega (arith, c.requires, c.order_sound-answer.auto.trades, trades_room c.order_sound-answer.new.trades c.order_sound-answer.result.made w m, put_long w))
    c.args.a c.order_sound-answer.result c.order_sound-answer.ensures w c.put_order-next.ensures
