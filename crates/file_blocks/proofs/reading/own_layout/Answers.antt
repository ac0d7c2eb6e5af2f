-- `file_blocks::reading::own_layout` meets its contract: its tests are the definition's. Assumes nothing.
use native.Mathlib.Omega.{arith}
use Rattle.std.proofs.lemmas.Grind.{common_steps}
use Rattle.file_blocks.specs.Blocks.{own_layout}
use Rattle.file_blocks.proofs.reading.own_layout.Goals as goal

pub returns-then-are_records : goal.returns-then-are_records
unfolding own_layout
returns-then-are_records c = rw (← c.records_in-n.ensures) (grind (arith, common_steps))

pub returns-else-are_records : goal.returns-else-are_records
unfolding own_layout
returns-else-are_records c = rw (← c.records_in-n.ensures) (grind (arith, common_steps))
