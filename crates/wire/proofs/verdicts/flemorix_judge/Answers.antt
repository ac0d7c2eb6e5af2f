-- `wire::verdicts::flemorix_judge` meets its contract: the verdict, and its reply. Assumes nothing.
use Rattle.wire.proofs.Judged.{judge_answered}
use Rattle.wire.proofs.verdicts.flemorix_judge.Goals as goal

pub returns : goal.returns
returns c =
    let a = c.args in
    judge_answered a.day.now a.book.now a.claims.now a.price a.reply.now c.judge_any.ensures c.verdict_numbers-row.ensures c.put_reply.ensures
