-- `rescue::list_blocks` meets its contract. Assumes nothing.
use mathlib.Core.Path.{refl}
use native.Mathlib.Omega.{arith}
use Rattle.rescue.proofs.Listing.{going_start, going_next, going_end, part_long}
use Rattle.rescue.proofs.list_blocks.Goals as goal

pub loop-i-init : goal.loop-i-init
loop-i-init c = going_start _ _ _ _

pub put_block-p-requires : goal.put_block-p-requires
put_block-p-requires c = let i = c.loop-i.invariant in
    (part_long c.args.file.now _ _ c.requires.0 c.loop-i-test.true refl, omega (arith, i.room, i.long, c.requires.2, c.loop-i-test.true))

pub loop-i-preserved : goal.loop-i-preserved
loop-i-preserved c = going_next _ _ _ _ c.loop-i.invariant c.loop-i-test.true refl c.put_block-p.ensures

pub shape_of-said : goal.shape_of-said
shape_of-said c = c.loop-i.invariant.long

pub returns : goal.returns
returns c = going_end _ _ _ _ c.loop-i.invariant c.loop-i-test.false c.requires.2
