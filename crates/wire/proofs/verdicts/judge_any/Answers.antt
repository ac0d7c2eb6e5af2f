-- `wire::verdicts::judge_any` meets its contract: refused by a length, or the call on bytes. Assumes nothing.
use borrow.Author.Tests.{eq-eqb}
use mathlib.Core.Logic.{inl, inr}
use Rattle.wire.proofs.Judged.{judge_unread, judge_read}
use Rattle.wire.proofs.verdicts.judge_any.Goals as goal
use Rattle.wire.proofs.verdicts.judge_any.Goals.{
  then-day-ne-DAY_BYTES-via-then-day-ne-DAY_BYTES,
  then-day-ne-DAY_BYTES-via-else-day-ne-DAY_BYTES+then-book-gt-MOST_PLACES,
}

pub returns-then-day-ne-DAY_BYTES : goal.returns-then-day-ne-DAY_BYTES
returns-then-day-ne-DAY_BYTES c =
    let a = c.args in
    judge_unread a.day.now a.book.now a.claims.now a.price
    (elim c.then-day-ne-DAY_BYTES.branch [
      | then-day-ne-DAY_BYTES-via-then-day-ne-DAY_BYTES w ↦ inl w.if-day-ne-DAY_BYTES.true
      | then-day-ne-DAY_BYTES-via-else-day-ne-DAY_BYTES+then-book-gt-MOST_PLACES w ↦ inr (w.if-day-ne-DAY_BYTES.false, w.if-book-gt-MOST_PLACES.true)
    ])

pub returns : goal.returns
returns c =
    let a = c.args in
    judge_read a.day.now a.book.now a.claims.now a.price (eq-eqb _ _ c.if-day-ne-DAY_BYTES.false) c.day_in.ensures c.judge_bytes.ensures
