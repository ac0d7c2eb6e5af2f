-- `day_files::count_records` meets its contract: the invariant is `Counting`. Assumes nothing.
use Rattle.day_files.proofs.Counting.{Counting}
use Rattle.day_files.proofs.count_records.Given as goal

abbrev pub invariant-loop-done : goal.invariant-loop-done
invariant-loop-done l = Counting l.file l.whole l.total l.done
