-- Those passed so far are in order of arrival; the rest is still to be told.
use Rattle.model.specs.declared.Declaration.{Declaration}
use Rattle.model.specs.Blocks.{undeclared}
use Rattle.arrivals.proofs.Passing.{Arrived}
use Rattle.held.proofs.standing.is_in_arrival.Given as goal

abbrev pub invariant-loop-i : goal.invariant-loop-i
invariant-loop-i l = Arrived undeclared l.rows (λ (x : Declaration). x.number) l.i
