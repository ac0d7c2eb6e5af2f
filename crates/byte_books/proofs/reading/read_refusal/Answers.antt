-- `byte_books::reading::read_refusal` meets its contract: each case is one clause of the definition. Assumes nothing.
use Rattle.byte_books.specs.Reading.{read_refusal}
use Rattle.byte_books.proofs.reading.read_refusal.Goals as goal

pub returns-in-Report : goal.returns-in-Report
unfolding read_refusal
returns-in-Report c = rw c.in-Report.is

pub returns-in-List : goal.returns-in-List
unfolding read_refusal
returns-in-List c = rw c.in-List.is
