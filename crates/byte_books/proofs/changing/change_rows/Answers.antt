-- `byte_books::changing::change_rows` meets its contract: either call, its reply as the reply of both. Assumes nothing.
use mathlib.Core.Path.{ap}
use Rattle.byte_books.specs.Changing.{opened, book_call}
use Rattle.byte_books.proofs.Untraded.{cancel_changed}
use Rattle.byte_books.proofs.changing.change_rows.Goals as goal

pub returns-in-Open : goal.returns-in-Open
unfolding book_call
returns-in-Open c = rw c.in-Open.is (ap opened c.open_call.ensures)

pub returns-in-Cancel : goal.returns-in-Cancel
returns-in-Cancel c =
    let a = c.args in
    cancel_changed a.day.now a.rows.now c.cancel_call.new.rows c.in-Cancel.is c.day_in.ensures c.cancel_call.ensures
