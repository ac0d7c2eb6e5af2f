-- Place by place, and then the free places.
use mathlib.Core.Path.{refl, ◌∙◌}
use native.Mathlib.Omega.{arith}
use Prim.Native.Nat.{◌<◌}
use lib.ListN.{length}
use Rattle.std.proofs.lemmas.List.{get_or_default}
use Rattle.model.specs.Blocks.{undeclared}
use Rattle.blocks.proofs.Staying.{staying_start, staying_next, staying_end}
use Rattle.blocks.proofs.confirming.close_up.Goals as goal

pub loop-i-init : goal.loop-i-init
loop-i-init c = staying_start _ _

pub stay_place-kept-requires : goal.stay_place-kept-requires
stay_place-kept-requires c = omega (arith, c.loop-i-test.true, c.loop-i.invariant.few, c.loop-i.invariant.long, c.requires)

pub loop-i-preserved : goal.loop-i-preserved
loop-i-preserved c =
    let inside : c.loop-i.i < length c.loop-i.rows = omega (arith, c.loop-i-test.true, c.loop-i.invariant.long, c.requires) in
    staying_next _ _ c.loop-i.invariant inside c.loop-i-test.true
    (get_or_default _ _ _ undeclared inside) refl c.stay_place-kept.ensures

pub free_rest-requires : goal.free_rest-requires
free_rest-requires c =
    let inv = c.loop-i.invariant in
    omega (arith, inv.few, inv.within, inv.long)

pub shape_of-rows : goal.shape_of-rows
shape_of-rows c = c.free_rest.auto.rows ∙ c.loop-i.invariant.long

pub returns : goal.returns
returns c =
    staying_end _ _ c.loop-i.invariant (omega (arith, c.loop-i-test.false, c.loop-i.invariant.long, c.requires)) c.free_rest.ensures
