-- `rescue::put_tail` meets its contract. Assumes nothing.
use Rattle.printing.proofs.Printed.{nothing_put, put_as}
use Rattle.rescue.proofs.Listing.{tail_none, tail_some}
use Rattle.rescue.proofs.put_tail.Goals as goal

pub returns-then-bytes-eq0 : goal.returns-then-bytes-eq0
returns-then-bytes-eq0 c = put_as (tail_none _ _ c.if-bytes-eq0.true) nothing_put

pub returns : goal.returns
returns c = put_as (tail_some _ _ c.if-bytes-eq0.false) c.put_reply.ensures
