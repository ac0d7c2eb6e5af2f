-- `file_records::writing::is_wide` meets its contract. Assumes nothing.
use Rattle.file_records.proofs.Written.{wide_side, wide_kind, no_order}
use Rattle.file_records.proofs.writing.is_wide.Goals as goal

pub returns-then-o-gt255 : goal.returns-then-o-gt255
returns-then-o-gt255 c = wide_side _ c.in-Order.is c.if-o-gt255.true

pub returns-else-o-gt255 : goal.returns-else-o-gt255
returns-else-o-gt255 c = wide_kind _ c.in-Order.is c.if-o-gt255.false

pub returns-in_default : goal.returns-in_default
returns-in_default c = no_order _ c.in_default.not-Order
