-- `file_blocks::reading::read_block` meets its contract, test by test. Assumes nothing.
use native.Mathlib.Omega.{arith}
use Rattle.std.proofs.lemmas.Grind.{common_steps}
use Rattle.model.specs.Refusals.{◌when◌, first_of}
use Rattle.file_blocks.specs.Blocks.{block_rules, read_block}
use Rattle.file_blocks.proofs.reading.read_block.Goals as goal

pub returns-then-block-ne-BLOCK_BYTES : goal.returns-then-block-ne-BLOCK_BYTES
unfolding read_block block_rules first_of ◌when◌
returns-then-block-ne-BLOCK_BYTES c = grind (arith, common_steps)

pub returns-then-not-right_check : goal.returns-then-not-right_check
unfolding read_block block_rules first_of ◌when◌
returns-then-not-right_check c = grind (arith, common_steps)

pub returns-then-four_at-place : goal.returns-then-four_at-place
unfolding read_block block_rules first_of ◌when◌
returns-then-four_at-place c = grind (arith, common_steps)

pub returns-then-n-eq25 : goal.returns-then-n-eq25
unfolding read_block block_rules first_of ◌when◌
returns-then-n-eq25 c = grind (arith, common_steps)

pub returns : goal.returns
unfolding read_block block_rules first_of ◌when◌
returns c = grind (arith, common_steps)
