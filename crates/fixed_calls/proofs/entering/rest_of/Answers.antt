-- Nothing, or all that is left.
use Rattle.fixed_calls.proofs.Entries.{nothing_left, some_left}
use Rattle.fixed_calls.proofs.entering.rest_of.Goals as goal

pub returns-then-left-eq0 : goal.returns-then-left-eq0
returns-then-left-eq0 c = nothing_left _ c.if-left-eq0.true

pub returns : goal.returns
returns c = some_left _ c.if-left-eq0.false
