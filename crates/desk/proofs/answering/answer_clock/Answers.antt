-- No day is 17; else the lines of the trades that were made, and the line of the reply after them. Assumes nothing.
use native.Mathlib.Omega.{arith}
use Rattle.model.specs.declared.Event.TheVariants.{Clock}
use Rattle.model.specs.Session.{clock_answer, event_answer, answer}
use Rattle.printing.proofs.Printed.{put_long}
use Rattle.printing.proofs.Replied.{trades_room}
use Rattle.desk.proofs.Answers.{on_day, clock_made, no_day_lem, no_trades_lem, clock_answered}
use Rattle.desk.proofs.answering.answer_clock.Goals as goal

pub returns-in_default : goal.returns-in_default
unfolding answer event_answer
returns-in_default c =
    let s = c.args in
    let r = c.refuse in
    let n = c.in_default.is in
    record {
      leaves = no_day_lem s.desk s.rows.now (clock_answer s.time) _ (omega arith) n r.ensures.0 r.ensures.1;
      list = no_trades_lem s.desk s.rows.now (Clock s.time) s.trades.now n;
    }

pub clock_sound-answer-requires : goal.clock_sound-answer-requires
clock_sound-answer-requires c =
    on_day c.args.desk c.args.rows.now c.in-Open.is c.requires.2

pub put_trades-after-requires : goal.put_trades-after-requires
put_trades-after-requires c =
    let m = clock_made _ c.args.rows.now c.args.trades.now c.clock_sound-answer.new.rows c.clock_sound-answer.new.trades c.args.time c.clock_sound-answer.ensures in
    (m, omega (arith, c.requires, c.clock_sound-answer.auto.trades))

pub put_clock-next-requires : goal.put_clock-next-requires
put_clock-next-requires c =
    let w = c.put_trades-after.ensures in
    let m = clock_made _ c.args.rows.now c.args.trades.now c.clock_sound-answer.new.rows c.clock_sound-answer.new.trades c.args.time c.clock_sound-answer.ensures in
    omega (arith, c.requires, c.clock_sound-answer.auto.trades, trades_room c.clock_sound-answer.new.trades c.clock_sound-answer.result.made w m, put_long w)

pub returns : goal.returns
returns c =
    let w = c.put_trades-after.ensures in
    let m = clock_made _ c.args.rows.now c.args.trades.now c.clock_sound-answer.new.rows c.clock_sound-answer.new.trades c.args.time c.clock_sound-answer.ensures in
    clock_answered c.args.desk c.args.rows.now c.clock_sound-answer.new.rows _ c.in-Open.is c.args.trades.now c.clock_sound-answer.new.trades c.requires.0
    (omega (arith, c.requires, c.clock_sound-answer.auto.trades, trades_room c.clock_sound-answer.new.trades c.clock_sound-answer.result.made w m, put_long w))
    c.args.time c.clock_sound-answer.result c.clock_sound-answer.ensures w c.put_clock-next.ensures
