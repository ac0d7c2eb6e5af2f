-- Those passed so far are in order of arrival; the rest is still to be told.
use Prim.Native.Nat.{◌-◌, ◌<◌}
use lib.ListN.{length}
use native.Mathlib.Omega.{arith}
use Rattle.std.proofs.lemmas.List.{get_or_default}
use borrow.Author.Tests.{not-true, not-false}
use Rattle.model.specs.Blocks.{undeclared}
use Rattle.arrivals.proofs.Passing.{arrived_start, arrived_fails, arrived_next, arrived_ends}
use Rattle.held.proofs.standing.is_in_arrival.Goals as goal

pub loop-i-init : goal.loop-i-init
loop-i-init c = arrived_start _ _ _

pub returns-then-not-may_arrive : goal.returns-then-not-may_arrive
returns-then-not-may_arrive c =
    let before : c.loop-i.i - 1 < length c.args.rows.now = omega arith in
    arrived_fails undeclared _ _ c.loop-i.invariant c.loop-i-test.true
    (get_or_default _ _ _ undeclared before) (get_or_default _ _ _ undeclared c.loop-i-test.true)
    c.may_arrive.ensures (not-true _ c.if-not-may_arrive.true-raw)

pub loop-i-preserved : goal.loop-i-preserved
loop-i-preserved c =
    let before : c.loop-i.i - 1 < length c.args.rows.now = omega arith in
    arrived_next undeclared _ _ c.loop-i.invariant c.loop-i-test.true
    (get_or_default _ _ _ undeclared before) (get_or_default _ _ _ undeclared c.loop-i-test.true)
    c.may_arrive.ensures (not-false _ c.if-not-may_arrive.false-raw)

pub returns : goal.returns
returns c = arrived_ends undeclared _ _ c.loop-i.invariant c.loop-i-test.false
