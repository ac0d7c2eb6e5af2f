-- `byte_books::changing::change_in` meets its contract: loaded, changed and stored. Assumes nothing.
use Rattle.byte_books.proofs.Untraded.{rows_changed}
use Rattle.byte_books.proofs.changing.change_in.Goals as goal

pub returns : goal.returns
returns c =
    let a = c.args in
    rows_changed a.day.now a.book.now c.load_book.new.rows c.load_book.ensures a.asked c.change_rows-told.new.rows
    c.change_rows-told.ensures
    c.store_book.ensures
