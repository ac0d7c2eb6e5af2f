-- What the records in the bytes come to, as a list's own definition says it. Assumes nothing.
use Rattle.records.proofs.Stored.{book_put}
use Rattle.records.proofs.lists.store_book.Goals as goal

pub returns : goal.returns
returns c = book_put _ c.args.rows.now _ c.requires c.store.ensures
