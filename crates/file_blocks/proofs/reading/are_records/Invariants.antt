-- `file_blocks::reading::are_records` meets its contract: the invariant is `Checking`. Assumes nothing.
use Rattle.file_blocks.proofs.Looking.{Checking}
use Rattle.file_blocks.proofs.reading.are_records.Given as goal

abbrev pub invariant-loop-i : goal.invariant-loop-i
invariant-loop-i l = Checking l.block l.n l.i
