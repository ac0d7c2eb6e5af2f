-- What the library's test of a whole list says. Assumes nothing.
use borrow.Author.Rules.{rules}
use Rattle.std.proofs.iter.runs.Made.{chains}
use Rattle.model.specs.FixedBook.{is_void}
use Rattle.model.proofs.Folds.{any_by}
use Rattle.fixed_book.proofs.evening.has_void.Goals as goal

pub returns : goal.returns
returns c = any_by (is_void c.args.close) _ (search (rules, chains))
