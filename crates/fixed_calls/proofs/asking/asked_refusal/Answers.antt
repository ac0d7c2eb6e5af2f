-- Each return is a law of the rules, from the tests on the way.
-- past a test, what it tested has passed
use mathlib.Core.Path.{◌≡◌, sym, ◌∙◌}
use mathlib.Core.Bool.{true}
use Rattle.model.specs.Clock.{long_hours}
use Rattle.model.specs.Limits.{is_price, is_quantity}
use Rattle.fixed_calls.proofs.AskedRules.{no_side, no_account, shut, no_quantity, no_price, outside_band, misses, none_asked}
use Rattle.fixed_calls.proofs.asking.asked_refusal.Goals as goal
use Rattle.fixed_calls.proofs.asking.asked_refusal.Goals.{Else-not-is_price, Else-not-is_quantity, Else-not-long_hours}

pub returns-then-a-gt1 : goal.returns-then-a-gt1
returns-then-a-gt1 c = no_side c.args.d c.args.a c.if-a-gt1.true

pub returns-then-a-eq0 : goal.returns-then-a-eq0
returns-then-a-eq0 c =
    no_account c.args.d c.args.a c.if-a-gt1.false c.if-a-eq0.true

pub returns-then-not-long_hours : goal.returns-then-not-long_hours
returns-then-not-long_hours c =
    shut c.args.d c.args.a c.if-a-gt1.false c.if-a-eq0.false (sym c.long_hours.ensures ∙ c.if-not-long_hours.true)

open-hours : (c : Else-not-long_hours) → long_hours c.args.d.time ≡ true
open-hours c = sym c.long_hours.ensures ∙ c.if-not-long_hours.false

quantity :
    (c : Else-not-is_quantity)
    → let a = c.args.a in
    is_quantity a.side a.quantity a.balance ≡ true
quantity c = sym c.is_quantity.ensures ∙ c.if-not-is_quantity.false

price : (c : Else-not-is_price) → is_price c.args.a.price ≡ true
price c = sym c.is_price.ensures ∙ c.if-not-is_price.false

pub returns-then-not-is_quantity : goal.returns-then-not-is_quantity
returns-then-not-is_quantity c =
    no_quantity c.args.d c.args.a c.if-a-gt1.false c.if-a-eq0.false (open-hours (goal.at.returns-then-not-is_quantity c).Else-not-long_hours)
    (sym c.is_quantity.ensures ∙ c.if-not-is_quantity.true)

pub returns-then-not-is_price : goal.returns-then-not-is_price
returns-then-not-is_price c =
    no_price c.args.d c.args.a c.if-a-gt1.false c.if-a-eq0.false (open-hours (goal.at.returns-then-not-is_price c).Else-not-long_hours) (quantity (goal.at.returns-then-not-is_price c).Else-not-is_quantity)
    (sym c.is_price.ensures ∙ c.if-not-is_price.true)

pub out_of_band-requires : goal.out_of_band-requires
out_of_band-requires c =
    record { close_value = c.requires; price_value = price c }

pub returns-then-out_of_band : goal.returns-then-out_of_band
returns-then-out_of_band c =
    outside_band c.args.d c.args.a c.if-a-gt1.false c.if-a-eq0.false (open-hours (goal.at.returns-then-out_of_band c).Else-not-long_hours) (quantity (goal.at.returns-then-out_of_band c).Else-not-is_quantity) (price (goal.at.returns-then-out_of_band c).Else-not-is_price)
    (sym c.out_of_band.ensures ∙ c.if-out_of_band.true)

pub returns-then-misses_close : goal.returns-then-misses_close
returns-then-misses_close c =
    misses c.args.d c.args.a c.if-a-gt1.false c.if-a-eq0.false (open-hours (goal.at.returns-then-misses_close c).Else-not-long_hours) (quantity (goal.at.returns-then-misses_close c).Else-not-is_quantity) (price (goal.at.returns-then-misses_close c).Else-not-is_price)
    (sym c.out_of_band.ensures ∙ c.if-out_of_band.false) (sym c.misses_close.ensures ∙ c.if-misses_close.true)

pub returns : goal.returns
returns c =
    none_asked c.args.d c.args.a c.if-a-gt1.false c.if-a-eq0.false (open-hours (goal.at.returns c).Else-not-long_hours) (quantity (goal.at.returns c).Else-not-is_quantity) (price (goal.at.returns c).Else-not-is_price)
    (sym c.out_of_band.ensures ∙ c.if-out_of_band.false) (sym c.misses_close.ensures ∙ c.if-misses_close.false)
