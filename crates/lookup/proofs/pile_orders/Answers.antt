-- `lookup::pile_orders` meets its contract: place by place one order more lies on its pile. Assumes nothing.
use mathlib.Core.Path.{refl, ◌∙◌}
use native.Mathlib.Omega.{arith}
use Rattle.std.proofs.lemmas.List.{get_or_default}
use Rattle.model.specs.Book.{free}
use Rattle.lookup.proofs.Piling.{piled_none, piled_on, piled_all}
use Rattle.lookup.proofs.pile_orders.Goals as goal

pub loop-i-init : goal.loop-i-init
loop-i-init c =
    (omega arith, refl, refl, piled_none c.args.rows.now _ _ c.requires.tops_value (omega (arith, c.requires.rows_in_bounds)))

pub loop-i-preserved : goal.loop-i-preserved
loop-i-preserved c =
    let q = piled_on c.args.rows.now _ _ _ c.loop-i.invariant.3 (get_or_default _ _ _ free c.loop-i-test.true) c.loop-i-test.true (c.pile_order.ensures.tops_after, c.pile_order.ensures.under_after) in
    (omega (arith, c.loop-i-test.true), q.0 ∙ c.loop-i.invariant.1, q.1 ∙ c.loop-i.invariant.2, q.2)

pub shape_of-tops : goal.shape_of-tops
shape_of-tops c = c.loop-i.invariant.1

pub shape_of-under : goal.shape_of-under
shape_of-under c = c.loop-i.invariant.2

pub returns : goal.returns
returns c = piled_all c.args.rows.now _ _ _ c.loop-i-test.false c.loop-i.invariant.0 c.loop-i.invariant.3
