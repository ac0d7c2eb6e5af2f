-- A line's shares are few enough to be summed, and the library's sum is the definition's. Assumes nothing.
use Prim.Native.Nat.{◌^◌, ◌<◌}
use mathlib.Core.Path.{◌≡◌, ◌∙◌}
use borrow.Author.Rules.{rules}
use native.Mathlib.Omega.{arith}
use Rattle.std.specs.List.{sum_by}
use Rattle.std.proofs.iter.runs.Made.{chains}
use Rattle.model.specs.declared.Order.{Order}
use Rattle.model.proofs.Folds.{total_is}
use Rattle.soundness.proofs.Totals.{shares_within}
use Rattle.fixed_book.proofs.resting_of.Goals as goal

pub sum-requires-clause-fits : goal.sum-requires-clause-fits
sum-requires-clause-fits c =
    let rows = c.args.rows.now in
    let few : sum_by (λ (o : Order). o.left) rows < 2 ^ 64 =
    omega (arith, total_is (λ (o : Order). o.left) rows, shares_within rows c.requires.fair c.requires.few)
    in
    search (rules, chains)

pub returns : goal.returns
returns c =
    let rows = c.args.rows.now in
    let told : c.sum.result ≡ sum_by (λ (o : Order). o.left) rows = search (rules, chains) in
    told ∙ total_is (λ (o : Order). o.left) rows
