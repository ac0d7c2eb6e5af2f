-- `orders::entering::remainder_of` meets its contract: two tests. Assumes nothing.
use borrow.Author.Tests.{eq-eqb, ne_eqb}
use Rattle.model.specs.Calls.{ended}
use Rattle.orders.proofs.entering.remainder_of.Goals as goal

pub returns-then-q-eq0 : goal.returns-then-q-eq0
unfolding ended
returns-then-q-eq0 c = rw (eq-eqb _ _ c.if-q-eq0.true)

pub returns-then-p-eq0 : goal.returns-then-p-eq0
unfolding ended
returns-then-p-eq0 c = rw (ne_eqb _ _ c.if-q-eq0.false, eq-eqb _ _ c.if-p-eq0.true)

pub returns : goal.returns
unfolding ended
returns c = rw (ne_eqb _ _ c.if-q-eq0.false, ne_eqb _ _ c.if-p-eq0.false)
