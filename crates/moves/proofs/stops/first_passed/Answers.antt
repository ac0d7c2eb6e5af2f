-- `moves::stops::first_passed` meets its contract: what the library's fold from the last second to the first comes to. Assumes nothing.
use mathlib.Core.Path.{◌≡◌, ◌∙◌}
use borrow.Author.Rules.{rules}
use Rattle.std.specs.Prelude.{fold, reverse}
use Rattle.std.proofs.iter.runs.Made.{chains}
use Rattle.moves.specs.Stops.{sooner}
use Rattle.moves.proofs.NextStop.{first_folded}
use Rattle.moves.proofs.stops.first_passed.Goals as goal

pub returns : goal.returns
returns c =
    let a = c.args in
    let told : c.fold.result ≡ fold (λ next second. sooner a.old a.new second next) 0 (reverse a.seconds.now) =
    search (rules, chains)
    in
    told ∙ first_folded a.old a.new a.seconds.now
