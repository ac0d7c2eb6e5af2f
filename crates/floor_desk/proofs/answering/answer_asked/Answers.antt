-- No day is 17; else the answer to the question. Assumes nothing.
use Rattle.floor_desk.proofs.Wishes.{unasked_leaves, asked_leaves}
use Rattle.floor_desk.proofs.answering.answer_asked.Goals as goal

pub returns-in_default : goal.returns-in_default
returns-in_default c =
    unasked_leaves c.args.desk c.args.rows.now c.args.claims.now c.args.noted c.requires.1 c.args.q _ c.requires.2 c.in_default.is c.put_refusal-next.ensures

pub returns : goal.returns
returns c =
    asked_leaves c.args.desk c.args.rows.now c.args.claims.now c.args.noted c.requires.1 c.args.q c.in-Open.is c.answer_question-told.ensures
