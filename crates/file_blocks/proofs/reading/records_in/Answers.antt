-- `file_blocks::reading::records_in` meets its contract. Assumes nothing.
use mathlib.Core.Path.{◌∙◌}
use Rattle.file_blocks.proofs.Looking.{two_worth}
use Rattle.file_blocks.proofs.reading.records_in.Goals as goal

pub returns : goal.returns
returns c = c.from.ensures ∙ c.from_le_bytes.ensures ∙ two_worth _ c.requires
