-- `records::numbers::read_numbers` meets its contract: the invariant is `Loading`, over numbers of 8 bytes. Assumes nothing.
use Rattle.records.specs.Layout.{number_in}
use Rattle.records.proofs.Runs.{Loading}
use Rattle.records.proofs.numbers.read_numbers.Given as goal

abbrev pub invariant-loop-i : goal.invariant-loop-i
invariant-loop-i l = Loading number_in 8 l.b l.at l.initial.list l.list l.i
