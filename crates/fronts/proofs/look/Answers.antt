-- `fronts::look` meets its contract: the invariant is `Looking`. Assumes nothing.
use mathlib.Core.Path.{refl}
use native.Mathlib.Omega.{arith}
use Rattle.fronts.proofs.Looks.{looking_start, looking_end, looking_count, looking_pass, looking_refused}
use Rattle.fronts.proofs.look.Goals as goal

pub loop-good-init : goal.loop-good-init
loop-good-init c = looking_start _ _ _ _

pub returns-in-Err : goal.returns-in-Err
returns-in-Err c =
    looking_refused _ _ _ c.args.file.now c.loop-good.invariant c.loop-good-test.true c.requires.0 refl c.in-Err.ensures

pub overflow_add-records : goal.overflow_add-records
overflow_add-records c =
    let i = c.loop-good.invariant in
    let few = looking_count _ _ _ c.args.file.now i c.loop-good-test.true c.requires.0 refl c.in-Ok.ensures in
    record { fits = omega (arith, few, i.few, c.requires.0, c.loop-good-test.true) }

pub loop-good-preserved : goal.loop-good-preserved
loop-good-preserved c =
    looking_pass _ _ _ c.args.file.now c.loop-good.invariant c.loop-good-test.true c.requires.0 refl c.in-Ok.ensures

pub returns : goal.returns
returns c = looking_end _ _ _ _ c.loop-good.invariant (omega (arith, c.loop-good.auto.good-end))
