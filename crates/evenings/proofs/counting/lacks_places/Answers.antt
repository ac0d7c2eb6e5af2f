-- The three counts together.
use native.Mathlib.Omega.{arith}
use Rattle.evenings.proofs.Ahead.{ahead_few, all_counted}
use Rattle.evenings.proofs.counting.lacks_places.Goals as goal

pub overflow_add-result : goal.overflow_add-result
overflow_add-result c =
    let few = ahead_few c.args.d c.args.time _ c.foresee-ahead.ensures c.requires.ready.ranked in
    record { fits = omega (arith, few, c.confirmed_ahead-confirmed.ensures.upper_bound) }

pub overflow_add-result-2 : goal.overflow_add-result-2
overflow_add-result-2 c =
    let few = ahead_few c.args.d c.args.time _ c.foresee-ahead.ensures c.requires.ready.ranked in
    record { fits = omega (arith, few, c.confirmed_ahead-confirmed.ensures.upper_bound, c.matched_ahead-matched.ensures.upper_bound) }

pub returns : goal.returns
returns c =
    all_counted c.args.d c.args.time _ c.foresee-ahead.ensures c.requires.time_le_time c.confirmed_ahead-confirmed.ensures.value c.matched_ahead-matched.ensures.value
    c.args.places
