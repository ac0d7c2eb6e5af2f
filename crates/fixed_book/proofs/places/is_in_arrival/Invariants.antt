-- Those passed so far are in order of arrival; the rest is still to be told. Assumes nothing.
use Rattle.model.specs.declared.Order.{Order}
use Rattle.model.specs.Book.{free}
use Rattle.arrivals.proofs.Passing.{Arrived}
use Rattle.fixed_book.proofs.places.is_in_arrival.Given as goal

abbrev pub invariant-loop-i : goal.invariant-loop-i
invariant-loop-i l = Arrived free l.rows (λ (o : Order). o.number) l.i
