-- `lookup::place_by` meets its contract: down the pile the place that is looked for stays the same. Assumes nothing.
use Prim.Native.Nat.{◌-◌, ◌<◌}
use native.Mathlib.Omega.{arith}
use lib.ListN.{length}
use Rattle.std.proofs.lemmas.List.{get_or_default}
use Rattle.model.specs.Book.{free}
use Rattle.lookup.proofs.Seeking.{Sought, sought_first, sought_none, found_there, further_down}
use Rattle.lookup.proofs.place_by.Goals as goal
use Rattle.lookup.proofs.place_by.Goals.{After-from-at-in-loop-at}

pub loop-at-init : goal.loop-at-init
loop-at-init c =
    sought_first _ _ _ _ c.requires c.from-at.ensures

pub bounds-rows-at : goal.bounds-rows-at
bounds-rows-at c =
    omega (arith, c.loop-at.invariant.within, c.loop-at-test.true)

pub returns-then-rows-at : goal.returns-then-rows-at
returns-then-rows-at c =
    let inside : c.loop-at.at - 1 < length c.args.rows.now = omega (arith, c.loop-at.invariant.within) in
    found_there _ c.args.rows.now _ c.loop-at-test.true c.loop-at.invariant _ (get_or_default _ _ _ free inside) c.if-rows-at.true

pub bounds-under-at : goal.bounds-under-at
bounds-under-at c =
    omega (arith, c.loop-at.invariant.within, c.loop-at-test.true, c.requires.long)

-- the next place down the pile
further :
    (c : After-from-at-in-loop-at)
    →
    Sought c.args.number c.args.rows.now c.from-at-in-loop-at.result
    × (c.from-at-in-loop-at.result < c.loop-at.at)
further c =
    let inside : c.loop-at.at - 1 < length c.args.rows.now = omega (arith, c.loop-at.invariant.within) in
    further_down _ c.args.rows.now _ c.loop-at-test.true c.loop-at.invariant _ (get_or_default _ _ _ free inside)
    _ _ c.requires c.if-rows-at.false c.from-at-in-loop-at.ensures

pub loop-at-smaller : goal.loop-at-smaller
loop-at-smaller c = (further c).1

pub loop-at-preserved : goal.loop-at-preserved
loop-at-preserved c = (further c).0

pub returns : goal.returns
returns c = sought_none _ _ c.loop-at-test.false c.loop-at.invariant
