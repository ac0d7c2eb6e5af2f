-- `unpack::unpack_part` meets its contract. Assumes nothing.
use Rattle.unpack.proofs.Put.{part_gives}
use Rattle.unpack.proofs.unpack_part.Goals as goal

pub returns : goal.returns
returns c = part_gives _ _ _ c.followed-blocks.ensures c.unpack_blocks.ensures c.requires.1
