-- `file_records::reading::is_record` meets its contract, test by test. Assumes nothing.
use native.Mathlib.Omega.{arith}
use Rattle.std.proofs.lemmas.Grind.{common_steps}
use Rattle.file_records.proofs.Looking.{record_says}
use Rattle.file_records.proofs.reading.is_record.Goals as goal

pub returns-then-b-at-eq0-3 : goal.returns-then-b-at-eq0-3
returns-then-b-at-eq0-3 c = rw (record_says _ _ c.requires) (grind (arith, common_steps))

pub returns-else-b-at-eq0-3 : goal.returns-else-b-at-eq0-3
returns-else-b-at-eq0-3 c = rw (record_says _ _ c.requires) (grind (arith, common_steps))
