-- A line of ./run, or a question. Assumes nothing.
use Rattle.floor_desk.proofs.Wishes.{as_wish}
use Rattle.floor_desk.proofs.answering.answer_wish.Goals as goal

pub returns-in-Says : goal.returns-in-Says
returns-in-Says c =
    as_wish c.in-Says.is c.answer_said.ensures

pub returns-in-Wants : goal.returns-in-Wants
returns-in-Wants c =
    as_wish c.in-Wants.is c.answer_asked.ensures
