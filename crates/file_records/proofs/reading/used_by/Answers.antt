-- `file_records::reading::used_by` meets its contract. Assumes nothing.
use native.Mathlib.Omega.{arith}
use borrow.Author.Rules.{rules}
use Rattle.std.proofs.Common.{tests}
use Rattle.file_records.specs.Records.{used}
use Rattle.file_records.proofs.reading.used_by.Goals as goal

pub returns-in-2 : goal.returns-in-2
unfolding used
returns-in-2 c = (rw c.in-2.is, omega arith)

pub returns-in-3 : goal.returns-in-3
unfolding used
returns-in-3 c = (rw c.in-3.is, omega arith)

pub returns-in_default : goal.returns-in_default
unfolding used
returns-in_default c = search (rules, tests)
