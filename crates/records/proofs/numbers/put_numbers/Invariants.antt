-- `records::numbers::put_numbers` meets its contract: the invariant is `Storing`, over numbers of 8 bytes. Assumes nothing.
use Rattle.octets.specs.Numbers.{digits}
use Rattle.records.proofs.Runs.{Storing}
use Rattle.records.proofs.numbers.put_numbers.Given as goal

abbrev pub invariant-loop-i : goal.invariant-loop-i
invariant-loop-i l = Storing (digits 8) 8 l.list l.initial.b l.at l.b l.i
