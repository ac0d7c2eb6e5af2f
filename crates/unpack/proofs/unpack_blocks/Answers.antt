-- `unpack::unpack_blocks` meets its contract: the invariant is `Going`. Assumes nothing.
use mathlib.Core.Path.{refl}
use native.Mathlib.Omega.{arith}
use Rattle.unpack.proofs.Put.{going_start, going_end, going_refused, going_count, going_long, going_pass}
use Rattle.unpack.proofs.unpack_blocks.Goals as goal

pub loop-good-init : goal.loop-good-init
loop-good-init c = going_start _ _ _ _ _

pub returns-in-Err : goal.returns-in-Err
returns-in-Err c =
    going_refused _ _ _ c.args.file.now _ c.loop-good.invariant c.loop-good-test.true c.requires.0 refl c.in-Err.ensures

pub put_records-next-requires : goal.put_records-next-requires
put_records-next-requires c =
    let i = c.loop-good.invariant in
    let few = going_count _ _ _ c.args.file.now _ i c.loop-good-test.true c.requires.0 refl c.in-Ok.ensures in (
      going_long _ _ _ c.args.file.now _ i c.loop-good-test.true c.requires.0 refl c.in-Ok.ensures,
      few,
      omega (arith, few, i.room, i.long, c.loop-good-test.true, c.requires.2),
    )

pub loop-good-preserved : goal.loop-good-preserved
loop-good-preserved c =
    going_pass _ _ _ c.args.file.now _ c.loop-good.invariant c.loop-good-test.true c.requires.0 refl c.in-Ok.ensures
    c.put_records-next.ensures

pub returns : goal.returns
returns c = going_end _ _ _ _ _ c.loop-good.invariant (omega (arith, c.loop-good.auto.good-end))
