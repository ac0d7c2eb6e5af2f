-- Place by place.
use Prim.Native.Nat.{◌≤◌}
use mathlib.Core.Path.{refl}
use native.Mathlib.Omega.{arith}
use lib.ListN.{length}
use Rattle.model.specs.Blocks.{undeclared}
use Rattle.blocks.proofs.Dealing.{dealing_start, dealing_next, dealing_counted, dealing_written, place_bounded}
use Rattle.blocks.proofs.confirming.write_confirmed.Goals as goal

pub loop-i-init : goal.loop-i-init
loop-i-init c = dealing_start _ _ _

pub confirm_place-sofar-requires : goal.confirm_place-sofar-requires
unfolding undeclared
confirm_place-sofar-requires c =
    let rows = c.args.rows.now in
    let q =
    place_bounded rows c.requires.declared c.loop-i.i (omega (arith, c.loop-i-test.true)) refl
    in record { made_bound = omega (arith, c.loop-i-test.true, c.loop-i.invariant.few, c.requires.declared.few); quantity_bound = omega (arith, q, c.loop-i-test.true, c.loop-i.invariant.bounded, c.requires.declared.few) }

pub loop-i-preserved : goal.loop-i-preserved
unfolding undeclared
loop-i-preserved c =
    let rows = c.args.rows.now in
    let q =
    place_bounded rows c.requires.declared c.loop-i.i (omega (arith, c.loop-i-test.true)) refl
    in
    dealing_next _ _ _ c.loop-i.invariant (omega (arith, c.loop-i-test.true)) (omega (arith, c.loop-i-test.true, c.requires.partner_len))
    refl refl q c.confirm_place-sofar.ensures

pub shape_of-trades : goal.shape_of-trades
shape_of-trades c = c.loop-i.invariant.long

pub returns : goal.returns
returns c =
    let rows = c.args.rows.now in
    let past : length rows ≤ c.loop-i.i = omega (arith, c.loop-i-test.false) in
    record { value = dealing_counted _ _ _ c.loop-i.invariant past; trades_after = dealing_written _ _ _ c.loop-i.invariant past }
