-- What the library's test of a whole list says. Assumes nothing.
use borrow.Author.Rules.{rules}
use Rattle.std.proofs.iter.runs.Made.{chains}
use Rattle.model.specs.Book.{stands_on}
use Rattle.model.proofs.Folds.{any_by}
use Rattle.fixed_book.proofs.evening.has_side.Goals as goal

pub returns : goal.returns
returns c = any_by (stands_on c.args.side) _ (search (rules, chains))
