-- `file_records::reading::four_at` meets its contract. Assumes nothing.
use mathlib.Core.Path.{◌∙◌}
use Rattle.file_records.proofs.Looking.{four_worth}
use Rattle.file_records.proofs.reading.four_at.Goals as goal

pub returns : goal.returns
returns c = c.from_le_bytes.ensures ∙ four_worth _ _ c.requires
