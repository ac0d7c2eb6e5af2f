-- What is left of those passed, and what is still to come off those behind (`Taken`).
use mathlib.Core.Path.{refl}
use Rattle.model.specs.Book.{free}
use native.Mathlib.Omega.{arith}
use Rattle.fixed_book.proofs.Taking.{taken_start, void_small, taken_next, taken_end}
use Rattle.fixed_book.proofs.leaving.take_off.Goals as goal

pub loop-o-init : goal.loop-o-init
loop-o-init c = taken_start _ _ _

pub owed_behind-owed-requires : goal.owed_behind-owed-requires
unfolding free
owed_behind-owed-requires c =
    omega (
      arith,
      void_small c.args.close c.args.shares c.args.rows.now c.loop-o.invariant (omega arith)
          refl c.requires,
    )

pub loop-o-preserved : goal.loop-o-preserved
unfolding free
loop-o-preserved c =
    taken_next c.args.close c.args.shares c.args.rows.now c.loop-o.invariant (omega arith)
    refl c.left_of.ensures c.owed_behind-owed.ensures refl

pub shape_of-rows : goal.shape_of-rows
shape_of-rows c = c.loop-o.invariant.long

pub returns : goal.returns
returns c =
    let end = taken_end c.args.close c.args.shares c.args.rows.now c.loop-o.invariant (omega arith) in
    record { value = end.0; rows_after = end.1 }
