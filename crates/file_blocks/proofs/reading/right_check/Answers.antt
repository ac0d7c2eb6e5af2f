-- `file_blocks::reading::right_check` meets its contract. Assumes nothing.
use Rattle.file_blocks.specs.Blocks.{right_check}
use Rattle.file_blocks.proofs.reading.right_check.Goals as goal

pub returns : goal.returns
unfolding right_check
returns c = rw (c.four_at.ensures, c.check_of.ensures)
