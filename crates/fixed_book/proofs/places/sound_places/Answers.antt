-- What the library's test of a whole list says. Assumes nothing.
use borrow.Author.Rules.{rules}
use Rattle.std.proofs.iter.runs.Made.{chains}
use mathlib.Core.Bool.{◌||◌}
use Rattle.model.specs.Sound.{is_free, is_order_of}
use Rattle.model.proofs.Folds.{all_by}
use Rattle.fixed_book.proofs.places.sound_places.Goals as goal

pub returns : goal.returns
returns c = all_by (λ o. is_free o || is_order_of c.args.d c.args.d.fixed.issued o) _ (search (rules, chains))
