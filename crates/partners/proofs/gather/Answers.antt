-- `partners::gather` meets its contract: place by place, what is gathered and what is left stay the whole. Assumes nothing.
use Prim.Native.Nat.{◌<◌}
use native.Mathlib.Omega.{arith}
use lib.ListN.{length}
use Rattle.std.proofs.lemmas.List.{get_or_default}
use Rattle.model.specs.Blocks.{undeclared}
use Rattle.partners.proofs.Gathering.{gathering_start, gathering_on, gathering_off, gathering_end}
use borrow.Author.Rules.{rules}
use Rattle.partners.proofs.gather.Goals as goal
use Rattle.partners.proofs.gather.Goals.{then-is_on, else-is_on}

pub loop-i-init : goal.loop-i-init
loop-i-init c = gathering_start _ c.args.rows.now _

pub offset_bounds-places-count : goal.offset_bounds-places-count
offset_bounds-places-count c =
    let l = c.loop-i in
    let h : l.count < length l.places = omega (arith, l.invariant.few, l.invariant.long, c.loop-i-test.true, c.requires) in
    search rules

pub bounds-places-count : goal.bounds-places-count
bounds-places-count c = omega (arith, c.loop-i.invariant.few, c.loop-i.invariant.long, c.loop-i-test.true, c.requires)

pub overflow_add-count : goal.overflow_add-count
overflow_add-count c =
    let l = c.loop-i in
    let h : l.count < length l.places = omega (arith, l.invariant.few, l.invariant.long, c.loop-i-test.true, c.requires) in
    search rules

pub loop-i-preserved : goal.loop-i-preserved
loop-i-preserved c =
    let l = c.loop-i in
    let h = c.loop-i-test.true in
    elim c.if-is_on.branch [
      | then-is_on w ↦
          gathering_on _ c.args.rows.now _ _ _ _ l.invariant h (get_or_default _ _ _ undeclared c.loop-i-test.true) c.is_on.ensures c.requires w.if-is_on.true w.places-is w.count-is
      | else-is_on w ↦
          gathering_off _ c.args.rows.now _ _ _ _ l.invariant h (get_or_default _ _ _ undeclared c.loop-i-test.true) c.is_on.ensures w.if-is_on.false w.places-is w.count-is
    ]

pub shape_of-places : goal.shape_of-places
shape_of-places c = c.loop-i.invariant.long

pub returns : goal.returns
returns c =
    let g = c.loop-i.invariant in record { upper_bound = omega (arith, g.few, g.most, c.requires); places_after = gathering_end _ c.args.rows.now _ _ _ _ g c.loop-i-test.false }
