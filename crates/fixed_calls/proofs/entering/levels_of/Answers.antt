-- None, or one.
use borrow.Author.Tests.{eq-eqb, ne_eqb}
use Rattle.fixed_calls.proofs.entering.levels_of.Goals as goal

pub returns-then-made-eq0 : goal.returns-then-made-eq0
returns-then-made-eq0 c = rw (eq-eqb _ _ c.if-made-eq0.true)

pub returns : goal.returns
returns c = rw (ne_eqb _ _ c.if-made-eq0.false)
