-- `pack_script::memory::block` meets its contract. Assumes nothing.
use Rattle.file_blocks.proofs.Filled.{filling_none}
use Rattle.pack_script.proofs.memory.block.Goals as goal

pub returns : goal.returns
returns c = filling_none
