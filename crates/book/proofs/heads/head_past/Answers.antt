-- By whether something of it is left.
use native.Mathlib.Omega.{arith}
use Rattle.book.proofs.Waiting.{past_kept, past_next}
use Rattle.book.proofs.heads.head_past.Goals as goal

pub returns-then-q-h : goal.returns-then-q-h
returns-then-q-h c =
    past_kept _ _ _ c.if-q-h.true

pub overflow_add-h : goal.overflow_add-h
overflow_add-h c =
    record { fits = omega (arith, c.requires.end_in_bounds, c.requires.at_lt_end, c.well_formed.0.0) }

pub returns : goal.returns
returns c =
    past_next _ _ _ c.if-q-h.false c.head_at.ensures
