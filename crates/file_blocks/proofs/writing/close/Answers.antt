-- `file_blocks::writing::close` meets its contract. Assumes nothing.
use Rattle.file_blocks.proofs.Filled.{closed_is}
use Rattle.file_blocks.proofs.writing.close.Goals as goal

pub returns : goal.returns
returns c =
    closed_is _ _ _ c.put_head.ensures c.check_of.ensures c.last_bytes-check.ensures c.put_bytes.ensures
