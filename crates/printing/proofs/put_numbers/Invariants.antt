-- The numbers put so far are the front of all.
use lib.ListN.{take}
use Rattle.model.specs.Lines.{spaced}
use Rattle.printing.specs.Printing.{Wrote}
use Rattle.printing.proofs.put_numbers.Given as goal

abbrev pub invariant-loop-x : goal.invariant-loop-x
invariant-loop-x l = Wrote l.initial.out l.initial.p (spaced (take l.x-index l.numbers)) l.out l.p
