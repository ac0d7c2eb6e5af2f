-- What is left of those passed, and what is still to come off those behind (`Taken`).
use Rattle.fixed_book.proofs.Taking.{Taken}
use Rattle.fixed_book.proofs.leaving.take_off.Given as goal

abbrev pub invariant-loop-o : goal.invariant-loop-o
invariant-loop-o l = Taken l.close l.shares l.initial.rows l.rows l.owed l.o-index
