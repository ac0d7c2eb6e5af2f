-- `records::buffers::put_reply` meets its contract: the numbers that fit are put at the front. Assumes nothing.
use mathlib.Core.Path.{refl}
use Rattle.records.proofs.Stored.{reply_put}
use Rattle.records.proofs.buffers.put_reply.Goals as goal

pub returns : goal.returns
returns c = (refl, reply_put _ c.args.list.now c.min-n.ensures c.put_numbers.ensures)
