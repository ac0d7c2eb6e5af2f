-- What the records in the bytes come to, as a list's own definition says it. Assumes nothing.
use Rattle.records.proofs.Stored.{book_read}
use Rattle.records.proofs.lists.load_book.Goals as goal

pub returns : goal.returns
returns c = book_read _ _ c.requires c.load.ensures
