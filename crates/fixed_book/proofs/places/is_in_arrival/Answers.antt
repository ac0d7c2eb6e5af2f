-- Those passed so far are in order of arrival; the rest is still to be told. Assumes nothing.
use mathlib.Core.Path.{refl}
use native.Mathlib.Omega.{arith}
use Rattle.model.specs.Book.{free}
use Rattle.arrivals.proofs.Passing.{arrived_start, arrived_fails, arrived_next, arrived_ends}
use Rattle.fixed_book.proofs.places.is_in_arrival.Goals as goal

pub loop-i-init : goal.loop-i-init
loop-i-init c = arrived_start _ _ _

pub returns-then-not-may_arrive : goal.returns-then-not-may_arrive
unfolding free
returns-then-not-may_arrive c =
    arrived_fails free _ _ c.loop-i.invariant (omega arith) refl refl c.may_arrive.ensures c.if-not-may_arrive.true

pub loop-i-preserved : goal.loop-i-preserved
unfolding free
loop-i-preserved c =
    arrived_next free _ _ c.loop-i.invariant (omega arith) refl refl c.may_arrive.ensures c.if-not-may_arrive.false

pub returns : goal.returns
returns c = arrived_ends free _ _ c.loop-i.invariant (omega arith)
