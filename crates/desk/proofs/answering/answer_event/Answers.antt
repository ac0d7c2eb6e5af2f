-- Each arm answers as the definitions do for what the line asks for. Assumes nothing.
use mathlib.Core.Path.{refl, ap}
use Rattle.model.specs.declared.Command.TheVariants.{Asks}
use Rattle.model.specs.Session.{event_answer, answer}
use Rattle.desk.specs.Desks.{desk_of, asks_day, asks_unsound}
use Rattle.desk.proofs.Answers.{asked_sound, as_asked}
use borrow.Author.Rules.{rules}
use Rattle.desk.proofs.answering.answer_event.Goals as goal

pub answer_clock-requires : goal.answer_clock-requires
unfolding asks_unsound asks_day
answer_clock-requires c =
    let k = asked_sound (desk_of c.args.desk c.args.rows.now) (ap Asks c.in-Clock.is) c.requires.3 in
    (search rules, search rules, k)

pub answer_order-requires : goal.answer_order-requires
unfolding asks_unsound asks_day
answer_order-requires c =
    let k = asked_sound (desk_of c.args.desk c.args.rows.now) (ap Asks c.in-Order.is) c.requires.3 in
    (search rules, search rules, k)

pub answer_cancel-requires : goal.answer_cancel-requires
unfolding asks_unsound asks_day
answer_cancel-requires c =
    let k = asked_sound (desk_of c.args.desk c.args.rows.now) (ap Asks c.in-Cancel.is) c.requires.3 in
    (search rules, k)

pub returns-in-Open : goal.returns-in-Open
unfolding answer event_answer
returns-in-Open c =
    let o = c.answer_open in
    as_asked (ap Asks c.in-Open.is)
    (record { leaves = o.ensures; list = refl })

pub returns-in-Clock : goal.returns-in-Clock
returns-in-Clock c =
    as_asked (ap Asks c.in-Clock.is) c.answer_clock.ensures

pub returns-in-Order : goal.returns-in-Order
returns-in-Order c =
    as_asked (ap Asks c.in-Order.is) c.answer_order.ensures

pub returns-in-Cancel : goal.returns-in-Cancel
unfolding answer event_answer
returns-in-Cancel c =
    let o = c.answer_cancel in
    as_asked (ap Asks c.in-Cancel.is)
    (record { leaves = o.ensures; list = refl })
