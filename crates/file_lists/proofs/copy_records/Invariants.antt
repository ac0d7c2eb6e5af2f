-- `file_lists::copy_records` meets its contract: the invariant is `Copying`. Assumes nothing.
use Rattle.file_lists.proofs.Copying.{Copying}
use Rattle.file_lists.proofs.copy_records.Given as goal

abbrev pub invariant-loop-i : goal.invariant-loop-i
invariant-loop-i l = Copying l.file l.initial.list l.count l.list l.i
