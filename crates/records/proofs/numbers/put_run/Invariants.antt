-- `records::numbers::put_run` meets its contract: the invariant is `Counting`. Assumes nothing.
use Rattle.records.proofs.Counted.{Counting}
use Rattle.records.proofs.numbers.put_run.Given as goal

abbrev pub invariant-loop-i : goal.invariant-loop-i
invariant-loop-i l = Counting l.first l.count l.initial.b l.b l.i
