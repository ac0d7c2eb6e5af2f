-- `file_blocks::writing::put_head` meets its contract. Assumes nothing.
use Rattle.file_blocks.proofs.Filled.{put_same, head_is}
use Rattle.file_blocks.proofs.writing.put_head.Goals as goal

pub returns : goal.returns
returns c =
    put_same _ _ _ _ c.put_bytes.ensures (head_is _ _ c.last_bytes-n.ensures c.last_bytes-k.ensures)
