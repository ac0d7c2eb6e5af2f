-- `wire::reading::read` meets its contract: refused by a length, or the call in its room. Assumes nothing.
use mathlib.Core.Logic.{inl, inr}
use Rattle.wire.proofs.Readings.{read_unread, read_read}
use Rattle.wire.proofs.reading.read.Goals as goal
use Rattle.wire.proofs.reading.read.Goals.{
  then-day-ne-DAY_BYTES-via-then-day-ne-DAY_BYTES,
  then-day-ne-DAY_BYTES-via-else-day-ne-DAY_BYTES+then-book-gt-MOST_PLACES,
}

pub returns-then-day-ne-DAY_BYTES : goal.returns-then-day-ne-DAY_BYTES
returns-then-day-ne-DAY_BYTES c =
    let a = c.args in
    read_unread a.day.now a.book.now a.asked
    (elim c.then-day-ne-DAY_BYTES.branch [
      | then-day-ne-DAY_BYTES-via-then-day-ne-DAY_BYTES w ↦ inl w.if-day-ne-DAY_BYTES.true
      | then-day-ne-DAY_BYTES-via-else-day-ne-DAY_BYTES+then-book-gt-MOST_PLACES w ↦ inr (w.if-day-ne-DAY_BYTES.false, w.if-book-gt-MOST_PLACES.true)
    ])
    c.read_refusal.ensures

pub returns : goal.returns
returns c =
    let a = c.args in
    read_read a.day.now a.book.now a.asked c.if-day-ne-DAY_BYTES.false c.read_bytes.ensures
