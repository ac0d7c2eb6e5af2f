-- `evenings::stops::at_end` meets its contract: nothing is due, or both lists are emptied and the shares that lapse are counted. Assumes
-- nothing.
use Rattle.model.specs.AfterClose.{end_all}
use Rattle.evenings.proofs.Passing.{not_due, is_due}
use Rattle.evenings.proofs.Steps.{end}
use Rattle.evenings.proofs.stops.at_end.Goals as goal

pub returns-then-not-passes : goal.returns-then-not-passes
returns-then-not-passes c =
    let a = c.args in
    λ h lent trades s. not_due 55_800 end_all a.old a.new c.passes.ensures c.if-not-passes.true-raw s

pub returns : goal.returns
returns c =
    let a = c.args in
    λ h lent trades s.
    is_due 55_800 end_all a.old a.new c.passes.ensures c.if-not-passes.false-raw
    (end h lent a.e a.fixed.now a.blocks.now trades s c.resting_of-lapsed.ensures c.clear_rows.ensures c.clear_held.ensures)
