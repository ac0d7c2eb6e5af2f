-- None where it does not pass 15:00, else all of them are counted.
use Rattle.evenings.proofs.Ahead.{none_ahead, some_ahead}
use Rattle.evenings.proofs.counting.confirmed_ahead.Goals as goal

pub returns-then-not-passes : goal.returns-then-not-passes
returns-then-not-passes c =
    let none = none_ahead c.args.old c.args.new _ c.requires c.passes.ensures c.if-not-passes.true-raw in
    record { value = none.0; upper_bound = none.1 }

pub returns : goal.returns
returns c =
    let some = some_ahead c.args.old c.args.new _ c.requires c.passes.ensures c.if-not-passes.false-raw c.count_confirmed.ensures in
    record { value = some.0; upper_bound = some.1 }
