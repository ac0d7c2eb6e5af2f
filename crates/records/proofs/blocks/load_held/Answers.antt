-- What the records in the bytes come to, as a list's own definition says it. Assumes nothing.
use Rattle.records.proofs.Stored.{held_read}
use Rattle.records.proofs.blocks.load_held.Goals as goal

pub returns : goal.returns
returns c = held_read _ _ c.requires c.load.ensures
