-- A line that is full stays as it is. Assumes nothing.
use borrow.Author.Rules.{rules}
use Rattle.convert.proofs.Pendings.{with_full, with_room}
use Rattle.convert.proofs.Pending.push.Goals as goal

pub returns-then-self-lt80 : goal.returns-then-self-lt80
returns-then-self-lt80 c = with_room _ _ (search rules) _ c.if-self-lt80.true

pub returns-else-self-lt80 : goal.returns-else-self-lt80
returns-else-self-lt80 c = with_full _ _ (search rules) _ c.if-self-lt80.false
