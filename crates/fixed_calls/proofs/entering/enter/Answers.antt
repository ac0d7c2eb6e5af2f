-- Early or late.
use Rattle.fixed_calls.proofs.entering.enter.Goals as goal

pub returns-then-d-lt-MATCHING_FROM : goal.returns-then-d-lt-MATCHING_FROM
returns-then-d-lt-MATCHING_FROM c =
    c.enter_early.ensures c.args.trades.now
