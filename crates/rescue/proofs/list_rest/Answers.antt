-- `rescue::list_rest` meets its contract. Assumes nothing.
use mathlib.Core.Path.{refl}
use Rattle.rescue.proofs.Listing.{tail_room, end_room, all_told}
use Rattle.rescue.proofs.list_rest.Goals as goal

pub put_tail-q-requires : goal.put_tail-q-requires
put_tail-q-requires c = tail_room c.args.file.now _ _ c.args.said.now refl c.requires.1 c.list_blocks-p.ensures

pub put_reply-requires : goal.put_reply-requires
put_reply-requires c = end_room c.args.file.now _ _ c.args.said.now refl c.requires.1 refl c.list_blocks-p.ensures c.put_tail-q.ensures

pub returns : goal.returns
returns c = all_told c.args.file.now _ _ c.args.said.now refl c.requires.1 refl c.list_blocks-p.ensures c.put_tail-q.ensures _ c.put_reply.ensures
