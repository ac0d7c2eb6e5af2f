-- `day::all::may_open_all` meets its contract: test after test. Assumes nothing.
use mathlib.Core.Path.{◌≡◌, sym, ◌∙◌}
use mathlib.Core.Bool.{true}
use borrow.Author.Tests.{not-true, not-false}
use Rattle.model.specs.Limits.{is_price}
use Rattle.model.specs.Sound.{has_places}
use Rattle.day.proofs.Openings.{all_unpriced, all_unmarked, all_no_book, all_no_line, all_places, all_too_few, all_enough}
use Rattle.day.proofs.all.may_open_all.Goals as goal
use Rattle.day.proofs.all.may_open_all.Goals.{Else-not-has_places, Else-not-has_places-2, Else-not-is_price}

-- past a test, what it tested has passed
priced : (c : Else-not-is_price) → is_price c.args.close ≡ true
priced c = sym c.is_price.ensures ∙ not-false _ c.if-not-is_price.false-raw

booked : (c : Else-not-has_places) → has_places c.args.main.now ≡ true
booked c = sym c.has_places.ensures ∙ not-false _ c.if-not-has_places.false-raw

lined : (c : Else-not-has_places-2) → has_places c.args.fixed.now ≡ true
lined c = sym c.has_places-2.ensures ∙ not-false _ c.if-not-has_places-2.false-raw

pub returns-then-not-is_price : goal.returns-then-not-is_price
returns-then-not-is_price c =
    let a = c.args in
    all_unpriced a.close a.mark a.main.now a.fixed.now a.blocks.now (sym c.is_price.ensures ∙ not-true _ c.if-not-is_price.true-raw)

pub returns-then-mark-gt1 : goal.returns-then-mark-gt1
returns-then-mark-gt1 c =
    let a = c.args in
    all_unmarked a.close a.mark a.main.now a.fixed.now a.blocks.now (priced (goal.at.returns-then-mark-gt1 c).Else-not-is_price) c.if-mark-gt1.true

pub returns-then-not-has_places : goal.returns-then-not-has_places
returns-then-not-has_places c =
    let a = c.args in
    all_no_book a.close a.mark a.main.now a.fixed.now a.blocks.now (priced (goal.at.returns-then-not-has_places c).Else-not-is_price) c.if-mark-gt1.false
    (sym c.has_places.ensures ∙ not-true _ c.if-not-has_places.true-raw)

pub returns-then-not-has_places-2 : goal.returns-then-not-has_places-2
returns-then-not-has_places-2 c =
    let a = c.args in
    all_no_line a.close a.mark a.main.now a.fixed.now a.blocks.now (priced (goal.at.returns-then-not-has_places-2 c).Else-not-is_price) c.if-mark-gt1.false (booked (goal.at.returns-then-not-has_places-2 c).Else-not-has_places)
    (sym c.has_places-2.ensures ∙ not-true _ c.if-not-has_places-2.true-raw)

pub returns-then-blocks-ge1 : goal.returns-then-blocks-ge1
returns-then-blocks-ge1 c =
    let a = c.args in
    all_places a.close a.mark a.main.now a.fixed.now a.blocks.now (priced (goal.at.returns-then-blocks-ge1 c).Else-not-is_price) c.if-mark-gt1.false (booked (goal.at.returns-then-blocks-ge1 c).Else-not-has_places) (lined (goal.at.returns-then-blocks-ge1 c).Else-not-has_places-2)
    (all_enough a.close a.mark a.main.now a.fixed.now a.blocks.now c.if-blocks-ge1.true)

pub returns-else-blocks-ge1 : goal.returns-else-blocks-ge1
returns-else-blocks-ge1 c =
    let a = c.args in
    all_places a.close a.mark a.main.now a.fixed.now a.blocks.now (priced (goal.at.returns-else-blocks-ge1 c).Else-not-is_price) c.if-mark-gt1.false (booked (goal.at.returns-else-blocks-ge1 c).Else-not-has_places) (lined (goal.at.returns-else-blocks-ge1 c).Else-not-has_places-2)
    (all_too_few a.close a.mark a.main.now a.fixed.now a.blocks.now c.if-blocks-ge1.false)
