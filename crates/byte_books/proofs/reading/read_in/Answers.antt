-- `byte_books::reading::read_in` meets its contract: loaded and read. Assumes nothing.
use Rattle.byte_books.proofs.Untraded.{rows_read}
use Rattle.byte_books.proofs.reading.read_in.Goals as goal

pub returns : goal.returns
returns c =
    let a = c.args in
    rows_read a.day.now a.book.now c.load_book.new.rows c.load_book.ensures c.day_in.ensures a.asked c.read_rows.ensures
