-- `byte_books::reading::read_rows` meets its contract: either call, its reply as the reply of both. Assumes nothing.
use mathlib.Core.Path.{ap}
use Rattle.byte_books.specs.declared.ReadReply.TheVariants.{Report, List}
use Rattle.byte_books.specs.Reading.{read_call}
use Rattle.byte_books.proofs.reading.read_rows.Goals as goal

pub returns-in-Report : goal.returns-in-Report
unfolding read_call
returns-in-Report c = rw c.in-Report.is (ap Report c.report_call.ensures)

pub returns-in-List : goal.returns-in-List
unfolding read_call
returns-in-List c = rw c.in-List.is (ap List c.list_run.ensures)
