-- No day is 17; else the reply as a line, and the day that is handed back. Assumes nothing.
use native.Mathlib.Omega.{arith}
use Rattle.model.specs.Session.{cancel_answer}
use Rattle.desk.proofs.Answers.{on_day, no_day_lem, cancel_answered}
use Rattle.desk.proofs.answering.answer_cancel.Goals as goal

pub returns-in_default : goal.returns-in_default
returns-in_default c =
    let s = c.args in
    let r = c.refuse in
    no_day_lem s.desk s.rows.now (cancel_answer s.account s.number) _ (omega arith) c.in_default.is r.ensures.0 r.ensures.1

pub cancel_sound-answer-requires : goal.cancel_sound-answer-requires
cancel_sound-answer-requires c =
    on_day c.args.desk c.args.rows.now c.in-Open.is c.requires.1

pub returns : goal.returns
returns c =
    let s = c.args in
    cancel_answered s.desk s.rows.now _ _ c.in-Open.is s.account s.number c.cancel_sound-answer.result (omega arith) c.cancel_sound-answer.ensures c.put_cancel-next.ensures
