-- `pack::lines::put_end` meets its contract. Assumes nothing.
use Rattle.printing.proofs.Printed.{and_then}
use Rattle.pack.proofs.Ended.{end_room}
use Rattle.pack.proofs.lines.put_end.Goals as goal

pub put_reply-requires : goal.put_reply-requires
put_reply-requires c = end_room c.args.carry _ c.requires c.put_left-at.ensures

pub returns : goal.returns
returns c = and_then c.put_left-at.ensures c.put_reply.ensures
