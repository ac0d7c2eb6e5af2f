-- The declarations from the front on up to the first free place.
use mathlib.Core.Path.{◌∙◌}
use borrow.Author.Rules.{rules}
use borrow.Author.Tests.{tests}
use Rattle.std.proofs.lemmas.Iterator.{YieldsList-from_slice}
use Rattle.std.proofs.lemmas.Iterator.Consumers.{count_from_yields_List}
use Rattle.std.proofs.lemmas.Iterator.Search.{YieldsList-from_take_while}
use Rattle.model.specs.Blocks.{is_held}
use Rattle.held.proofs.Holding.{held_first}
use Rattle.held.proofs.entering.count_held.Goals as goal

pub returns : goal.returns
returns c =
    let t = c.take_while.ensures in
    count_from_yields_List _ c.count.result c.count.ensures.ran
    (YieldsList-from_take_while _ is_held (YieldsList-from_slice c.args.rows.now cc) t.closure t.done (λ x b q k. search (rules, tests)))
    ∙ held_first c.args.rows.now c.requires.arrived
