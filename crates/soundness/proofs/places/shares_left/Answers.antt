-- Place by place: what is summed and what is left to sum make the whole, which is small enough.
use mathlib.Core.Path.{refl}
use native.Mathlib.Omega.{arith}
use Rattle.model.specs.Book.{free}
use Rattle.soundness.proofs.Totals.{sum_none, sum_small, sum_more, sum_all, shares_within}
use Rattle.soundness.proofs.places.shares_left.Goals as goal

pub loop-o-init : goal.loop-o-init
loop-o-init c = sum_none _

pub overflow_add-sum : goal.overflow_add-sum
unfolding free
overflow_add-sum c =
    let rows = c.args.rows.now in
    omega
    (arith, sum_small rows c.loop-o.sum c.loop-o.o-index c.loop-o.invariant _ c.loop-o-test.true refl, shares_within rows c.requires.stands.fair c.requires.few)

pub loop-o-preserved : goal.loop-o-preserved
unfolding free
loop-o-preserved c =
    sum_more c.args.rows.now c.loop-o.sum c.loop-o.o-index c.loop-o.invariant _ c.loop-o-test.true refl

pub returns : goal.returns
returns c = sum_all _ _ _ c.loop-o.invariant c.loop-o-test.false
