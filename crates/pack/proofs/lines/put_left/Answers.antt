-- `pack::lines::put_left` meets its contract. Assumes nothing.
use Rattle.printing.proofs.Printed.{nothing_put, put_as}
use Rattle.pack.proofs.Ended.{left_told, none_told}
use Rattle.pack.proofs.lines.put_left.Goals as goal

pub returns-then-is_left : goal.returns-then-is_left
returns-then-is_left c = put_as (left_told c.args.carry _ c.is_left.ensures c.if-is_left.true) c.tell.ensures

pub returns : goal.returns
returns c = put_as (none_told c.args.carry _ c.is_left.ensures c.if-is_left.false) nothing_put
