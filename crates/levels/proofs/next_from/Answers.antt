-- Behind the last order there is no price; else the first order's, with those right behind it that stand at it.
use mathlib.Core.Path.{refl}
use Rattle.model.specs.Book.{free}
use Prim.Native.Nat.{◌+◌}
use native.Mathlib.Omega.{arith}
use Rattle.levels.proofs.Nexts.{next_none, run_fits, sum_fits, next_some}
use Rattle.levels.proofs.next_from.Goals as goal

pub returns-then-end-at : goal.returns-then-end-at
returns-then-end-at c = next_none c.args.rows.now c.args.at c.args.end c.if-end-at.true

pub run_from-others-requires : goal.run_from-others-requires
run_from-others-requires c =
    let fit = run_fits c.args.rows.now (c.args.at + 1) c.args.end _ c.requires.ranked c.requires.end_in_bounds in
    record { end_in_bounds = fit.0; rows_bound = fit.1 }

pub overflow_add-shares : goal.overflow_add-shares
unfolding free
overflow_add-shares c =
    omega (
      arith,
      sum_fits c.args.rows.now c.args.at _ c.args.end _ c.requires.ranked c.requires.end_in_bounds (omega (arith, c.if-end-at.false))
          refl c.run_from-others.ensures,
    )

pub returns : goal.returns
unfolding free
returns c =
    next_some c.args.rows.now c.args.at c.args.end c.requires.end_in_bounds (omega (arith, c.if-end-at.false))
    refl c.run_from-others.ensures
