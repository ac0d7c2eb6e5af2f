-- The first place whose declaration fits, or none.
use borrow.Author.Rules.{rules}
use borrow.Author.Tests.{tests}
use Rattle.std.proofs.lemmas.Iterator.{YieldsList-from_slice}
use Rattle.std.proofs.lemmas.Iterator.Search.{position_from_yields_List}
use Rattle.model.specs.Blocks.{fits}
use Rattle.held.proofs.Earliest.{found_place}
use Rattle.held.proofs.entering.earliest_fit.Goals as goal

pub returns : goal.returns
returns c =
    found_place c.args.x c.args.rows.now
    (position_from_yields_List (fits c.args.x) _ _ c.position.result c.position.ensures.ran (YieldsList-from_slice c.args.rows.now cc) (λ y b q k. search (rules, tests)))
