-- By the head's two tests.
use mathlib.Core.Logic.{⊎_elim}
use native.Mathlib.Omega.{arith}
use Rattle.auction.proofs.Leaving.{left_none, left_off, left_most, left_with}
use Rattle.auction.proofs.price.left_at.Goals as goal

pub returns-then-h-eq0 : goal.returns-then-h-eq0
returns-then-h-eq0 c = ⊎_elim (λ w. left_none _ _ _ w) (λ w. left_off _ _ _ w.0 w.1) c.then-h-eq0.either

pub overflow_add-h : goal.overflow_add-h
overflow_add-h c =
    let inside = c.requires.at_lt_end (omega (arith, c.if-h-eq0.false)) in
    record { fits = omega (arith, inside, c.requires.end_in_bounds, c.well_formed.0.0) }

pub run_from-others-requires : goal.run_from-others-requires
run_from-others-requires c =
    record { end_in_bounds = c.requires.end_in_bounds; rows_bound = left_most _ _ _ c.if-h-eq0.false c.if-h-p.false c.requires.rows_bound }

pub overflow_add-result : goal.overflow_add-result
overflow_add-result c =
    let whole = left_with c.args.p c.args.h _ _ c.if-h-eq0.false c.if-h-p.false c.run_from-others.ensures in
    omega (arith, whole, c.requires.rows_bound)

pub returns : goal.returns
returns c =
    left_with _ _ _ _ c.if-h-eq0.false c.if-h-p.false c.run_from-others.ensures
