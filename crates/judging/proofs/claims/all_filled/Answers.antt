-- `judging::claims::all_filled` meets its contract: the library's test of a whole list. Assumes nothing.
use borrow.Author.Rules.{rules}
use lib.Dec.{eqb}
use Rattle.std.proofs.iter.runs.Made.{chains}
use Rattle.model.proofs.Folds.{all_by}
use Rattle.judging.proofs.claims.all_filled.Goals as goal

pub returns : goal.returns
returns c = all_by (eqb 0) _ (search (rules, chains))
