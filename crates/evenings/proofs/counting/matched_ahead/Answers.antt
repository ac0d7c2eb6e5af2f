-- None where it does not pass 15:05, else all of them are counted.
use Rattle.evenings.proofs.Ahead.{none_matched, some_matched}
use Rattle.evenings.proofs.counting.matched_ahead.Goals as goal

pub returns-then-not-passes : goal.returns-then-not-passes
returns-then-not-passes c =
    let none = none_matched c.args.close c.args.old c.args.new _ c.requires c.passes.ensures c.if-not-passes.true-raw in
    record { value = none.0; upper_bound = none.1 }

pub returns : goal.returns
returns c =
    let some =
    some_matched c.args.close c.args.old c.args.new _ c.requires c.passes.ensures c.if-not-passes.false-raw
    c.deal_at_close-counted.ensures.value in
    record { value = some.0; upper_bound = some.1 }
