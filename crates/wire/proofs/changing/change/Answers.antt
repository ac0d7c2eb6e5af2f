-- `wire::changing::change` meets its contract: refused by a length, or the call in its room, its day and its reply. Assumes nothing.
use mathlib.Core.Logic.{inl, inr}
use Rattle.wire.proofs.Changes.{change_unread, change_answered}
use Rattle.wire.proofs.changing.change.Goals as goal
use Rattle.wire.proofs.changing.change.Goals.{
  then-day-ne-DAY_BYTES-via-then-day-ne-DAY_BYTES,
  then-day-ne-DAY_BYTES-via-else-day-ne-DAY_BYTES+then-book-gt-MOST_PLACES,
}

pub returns-then-day-ne-DAY_BYTES : goal.returns-then-day-ne-DAY_BYTES
returns-then-day-ne-DAY_BYTES c =
    let a = c.args in
    change_unread a.day.now a.book.now a.reply.now a.asked
    (elim c.then-day-ne-DAY_BYTES.branch [
      | then-day-ne-DAY_BYTES-via-then-day-ne-DAY_BYTES w ↦ inl w.if-day-ne-DAY_BYTES.true
      | then-day-ne-DAY_BYTES-via-else-day-ne-DAY_BYTES+then-book-gt-MOST_PLACES w ↦ inr (w.if-day-ne-DAY_BYTES.false, w.if-book-gt-MOST_PLACES.true)
    ])
    c.put_unread.ensures
    (λ i. (c.slice_known-1.given i).fits)
    (λ i. (c.slice_known-2-1.given i).fits)

pub returns : goal.returns
returns c =
    let a = c.args in
    change_answered a.day.now a.book.now a.reply.now a.asked c.if-day-ne-DAY_BYTES.false c.change_bytes-told.ensures c.put_brought.ensures
    c.put_book_reply.ensures
