-- Every place passes the test.
use mathlib.Core.Path.{◌∙◌}
use mathlib.Core.Bool.{◌||◌}
use borrow.Author.Rules.{rules}
use borrow.Author.Tests.{tests}
use Rattle.std.proofs.lemmas.Iterator.{YieldsList-from_slice}
use Rattle.std.proofs.lemmas.Iterator.Search.{all_from_yields_List}
use Rattle.model.specs.SoundBlocks.{is_undeclared, is_declaration}
use Rattle.held.proofs.Walks.{all_is}
use Rattle.held.proofs.forms.all_formed.Goals as goal

pub returns : goal.returns
returns c =
    all_from_yields_List (λ x. is_undeclared x || is_declaration c.args.d x) _ _ c.all.result c.all.ensures.ran (YieldsList-from_slice c.args.rows.now cc) (λ x b q k. search (rules, tests))
    ∙ all_is (λ x. is_undeclared x || is_declaration c.args.d x) c.args.rows.now
