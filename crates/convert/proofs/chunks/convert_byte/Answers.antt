-- A newline starts a new line; any other byte is remembered. Assumes nothing.
use Rattle.convert.proofs.Steps.{put_room, ends_line, goes_on}
use borrow.Author.Rules.{rules}
use Rattle.convert.proofs.chunks.convert_byte.Goals as goal

pub bounds-out-end : goal.bounds-out-end
bounds-out-end c = put_room _ _ _ c.requires c.put_added-end.ensures

pub overflow_add-result : goal.overflow_add-result
overflow_add-result c = let h = put_room _ _ _ c.requires c.put_added-end.ensures in search rules

pub returns-then-b-eq10 : goal.returns-then-b-eq10
returns-then-b-eq10 c = ends_line _ _ _ _ _ _ _ c.if-b-eq10.true c.put_added-end.ensures c.clear.ensures

pub returns-else-b-eq10 : goal.returns-else-b-eq10
returns-else-b-eq10 c = goes_on _ _ _ _ _ c.if-b-eq10.false c.push.ensures
