-- The place is written, and one number more is issued.
use mathlib.Core.Path.{refl}
use Rattle.block_entries.proofs.Answers.{answer_held}
use Rattle.block_entries.proofs.entries.hold.Goals as goal

pub returns : goal.returns
returns c = record { value = answer_held _ c.issued_one-next.ensures; rows_after = refl }
