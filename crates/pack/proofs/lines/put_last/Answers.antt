-- `pack::lines::put_last` meets its contract. Assumes nothing.
use Rattle.pack.proofs.Ended.{puts_none, puts_some}
use Rattle.pack.proofs.lines.put_last.Goals as goal

pub returns-then-count-eq0 : goal.returns-then-count-eq0
returns-then-count-eq0 c = puts_none _ _ _ c.if-count-eq0.true

pub returns : goal.returns
returns c = puts_some _ _ _ c.if-count-eq0.false c.close.ensures c.put_bytes.ensures
