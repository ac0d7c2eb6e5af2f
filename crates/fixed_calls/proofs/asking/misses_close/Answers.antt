-- Nothing is asked of the close before 15:05.
use Rattle.fixed_calls.proofs.AskedRules.{not_yet, by_close}
use Rattle.fixed_calls.proofs.asking.misses_close.Goals as goal

pub returns-then-d-lt-MATCHING_FROM : goal.returns-then-d-lt-MATCHING_FROM
returns-then-d-lt-MATCHING_FROM c = let a = c.args in not_yet a.d a.price a.side c.if-d-lt-MATCHING_FROM.true

pub returns : goal.returns
returns c =
    let a = c.args in
    by_close a.d a.price a.side c.if-d-lt-MATCHING_FROM.false c.reference_of.ensures c.wrong_side.ensures
