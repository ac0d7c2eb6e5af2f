-- What the records in the bytes come to, as a list's own definition says it. Assumes nothing.
use Rattle.records.proofs.Stored.{held_put}
use Rattle.records.proofs.blocks.store_held.Goals as goal

pub returns : goal.returns
returns c = held_put _ c.args.rows.now _ c.requires c.store.ensures
