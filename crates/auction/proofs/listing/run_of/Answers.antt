-- The prices due are those of the span from the greater of the asked price and its lower end.
use mathlib.Core.Path.{ap, ◌∙◌}
use mathlib.Core.Logic.{⊎_elim}
use native.Mathlib.Omega.{arith}
use Rattle.auction.specs.Fitting.{run_within}
use Rattle.auction.proofs.Spanning.{spanned}
use Rattle.auction.proofs.Writing.{due_none, due_past, due_later, within_none}
use Rattle.auction.proofs.listing.run_of.Goals as goal

pub returns-then-lo-eq0 : goal.returns-then-lo-eq0
returns-then-lo-eq0 c =
    let e = c.span_of-lo.ensures in
    within_none _ (⊎_elim (λ w. due_none _ _ e w) (λ w. due_past _ _ e w.1) c.then-lo-eq0.either)

pub run_between-requires : goal.run_between-requires
run_between-requires c =
    let t = spanned _ c.span_of-lo.ensures c.if-lo-eq0.false in
    (omega (arith, t.some), t.to_999999)

pub returns : goal.returns
returns c =
    c.run_between.ensures
    ∙ ap (run_within _) (due_later _ _ c.span_of-lo.ensures c.if-lo-eq0.false c.max.ensures)
