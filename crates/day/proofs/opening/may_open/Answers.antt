-- `day::opening::may_open` meets its contract: three tests, one after the other. Assumes nothing.
use mathlib.Core.Path.{◌≡◌, sym, ◌∙◌}
use mathlib.Core.Bool.{◌&&◌}
use Rattle.model.specs.Limits.{is_price}
use Rattle.model.specs.Sound.{is_mark}
use Rattle.model.proofs.Bools.{and_no, and_yes}
use Rattle.day.proofs.opening.may_open.Goals as goal
use Rattle.day.proofs.opening.may_open.Goals.{Joined-is_price, then-is_price, else-is_price}

-- a price and a mark
numbers : (c : Joined-is_price) → c.if-is_price.t-5 ≡ (is_price c.args.close && is_mark c.args.mark)
unfolding is_mark
numbers c =
    elim c.if-is_price.branch [
      | then-is_price w ↦ and_yes _ (sym c.is_price.ensures ∙ w.if-is_price.true) w.t-5-is
      | else-is_price w ↦ w.t-5-is ∙ w.if-is_price.false ∙ and_no _ (sym c.is_price.ensures ∙ w.if-is_price.false)
    ]

pub returns-then-mark-le1 : goal.returns-then-mark-le1
returns-then-mark-le1 c = and_yes _ (sym (numbers (goal.at.returns-then-mark-le1 c).Joined-is_price) ∙ c.if-mark-le1.true-raw) c.has_places.ensures

pub returns-else-mark-le1 : goal.returns-else-mark-le1
returns-else-mark-le1 c = c.if-mark-le1.false-raw ∙ and_no _ (sym (numbers (goal.at.returns-else-mark-le1 c).Joined-is_price) ∙ c.if-mark-le1.false-raw)
