-- `file_blocks::reading::check_of` meets its contract: the invariant is `Weighing`. Assumes nothing.
use Rattle.file_blocks.proofs.Looking.{Weighing}
use Rattle.file_blocks.proofs.reading.check_of.Given as goal

abbrev pub invariant-loop-i : goal.invariant-loop-i
invariant-loop-i l = Weighing l.block l.sum l.i
