-- The reply as a line, and the desk: a fresh one where the day opened, else the old one. Assumes nothing.
use Rattle.desk.proofs.Answers.{opening_made, opening_refused}
use Rattle.desk.proofs.answering.answer_open.Goals as goal

pub returns-in-Refused : goal.returns-in-Refused
returns-in-Refused c =
    opening_refused c.args.desk c.args.rows.now _ _ c.args.close c.args.mark _ c.requires.0
    c.open_call-reply.ensures c.put_open-next.ensures c.requires.1 _ c.in-Refused.is

pub returns-in-Opened : goal.returns-in-Opened
returns-in-Opened c =
    opening_made c.args.desk c.args.rows.now _ _ c.args.close c.args.mark _ c.requires.0
    c.open_call-reply.ensures c.put_open-next.ensures c.requires.1 _ c.in-Opened.is
