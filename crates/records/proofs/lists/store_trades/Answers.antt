-- What the records in the bytes come to, as a list's own definition says it. Assumes nothing.
use Rattle.records.proofs.Stored.{trades_put}
use Rattle.records.proofs.lists.store_trades.Goals as goal

pub returns : goal.returns
returns c = trades_put _ c.args.list.now _ c.requires c.store.ensures
