-- `checks::asked_checks::number_refusal` meets its contract: each return is a law of the rules, from the tests on the way. Assumes nothing.
use mathlib.Core.Path.{◌≡◌, sym, ◌∙◌}
use mathlib.Core.Bool.{true}
use borrow.Author.Tests.{not-true, not-false}
use Rattle.model.specs.Limits.{is_quantity, is_price}
use Rattle.model.proofs.Bools.{and_both, and_true}
use Rattle.checks.proofs.AskedRules.{number_quantity, number_price, number_unlimited, number_band, number_none}
use Rattle.checks.proofs.asked_checks.number_refusal.Goals as goal
use Rattle.checks.proofs.asked_checks.number_refusal.Goals.{
  Else-not-is_price,
  Else-not-is_quantity,
  else-d-eq1-via-then-d-eq1+else-not-in_band,
  else-d-eq1-via-else-d-eq1,
}

pub returns-then-not-is_quantity : goal.returns-then-not-is_quantity
returns-then-not-is_quantity c = number_quantity _ _ (sym c.is_quantity.ensures ∙ not-true _ c.if-not-is_quantity.true-raw)

-- past the first test the quantity is good, past the second the price
quantity :
    (c : Else-not-is_quantity)
    → let a = c.args.a in is_quantity a.side a.quantity a.balance ≡ true
quantity c = sym c.is_quantity.ensures ∙ not-false _ c.if-not-is_quantity.false-raw

pub returns-then-not-is_price : goal.returns-then-not-is_price
returns-then-not-is_price c =
    number_price _ _ (quantity (goal.at.returns-then-not-is_price c).Else-not-is_quantity) (sym c.is_price.ensures ∙ not-true _ c.if-not-is_price.true-raw)

price : (c : Else-not-is_price) → is_price c.args.a.price ≡ true
price c = sym c.is_price.ensures ∙ not-false _ c.if-not-is_price.false-raw

pub returns-then-not-in_band : goal.returns-then-not-in_band
returns-then-not-in_band c =
    number_band c.args.d c.args.a (quantity (goal.at.returns-then-not-in_band c).Else-not-is_quantity) (price (goal.at.returns-then-not-in_band c).Else-not-is_price) c.if-d-eq1.true
    (and_true (and_both c.requires (price (goal.at.returns-then-not-in_band c).Else-not-is_price)) (sym c.in_band.ensures ∙ not-true _ c.if-not-in_band.true-raw))

pub returns : goal.returns
returns c =
    let q = quantity (goal.at.returns c).Else-not-is_quantity in
    let p = price (goal.at.returns c).Else-not-is_price in
    elim c.else-d-eq1.branch [
      | else-d-eq1-via-then-d-eq1+else-not-in_band w ↦
          number_none c.args.d c.args.a q p w.if-d-eq1.true (and_true (and_both c.requires p) (sym w.in_band.ensures ∙ w.if-not-in_band.false))
      | else-d-eq1-via-else-d-eq1 w ↦ number_unlimited c.args.d c.args.a q p w.if-d-eq1.false
    ]
