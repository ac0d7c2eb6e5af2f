-- `file_records::writing::record_of` meets its contract. Assumes nothing.
use native.Mathlib.Omega.{arith}
use mathlib.Core.Path.{refl}
use Rattle.file_records.proofs.Written.{narrow, row_open, row_clock, row_order, row_cancel}
use Rattle.file_records.proofs.writing.record_of.Goals as goal

pub overflow_cast-o : goal.overflow_cast-o
overflow_cast-o c = let n = narrow _ c.in-Order.is c.requires in record { fits = omega (arith, n.0) }

pub overflow_cast-o-in-Order : goal.overflow_cast-o-in-Order
overflow_cast-o-in-Order c = let n = narrow _ c.in-Order.is c.requires in record { fits = omega (arith, n.1) }

pub returns-in-Open : goal.returns-in-Open
returns-in-Open c = row_open c.in-Open.is c.row.ensures

pub returns-in-Clock : goal.returns-in-Clock
returns-in-Clock c = row_clock c.in-Clock.is c.row-in-Clock.ensures

pub returns-in-Order : goal.returns-in-Order
returns-in-Order c = row_order _ c.in-Order.is refl refl c.row-in-Order.ensures

pub returns-in-Cancel : goal.returns-in-Cancel
returns-in-Cancel c = row_cancel c.in-Cancel.is c.row-in-Cancel.ensures
