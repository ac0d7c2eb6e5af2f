-- What the day's figures are within keeps every sum small.
use native.Mathlib.Omega.{arith}
use Rattle.fixed_book.proofs.Readiness.{says_fixed_day}
use Rattle.fixed_book.proofs.evening.sums_fit.Goals as goal

pub overflow_mul-result : goal.overflow_mul-result
overflow_mul-result c =
    let f = (says_fixed_day c.args.d).0 c.requires.d_value in
    record { fits = omega (arith, f.issued, f.shares) }

pub overflow_add-result : goal.overflow_add-result
overflow_add-result c =
    let f = (says_fixed_day c.args.d).0 c.requires.d_value in
    record { fits = omega (arith, f.issued, f.shares, c.requires.resting_bound) }

pub overflow_mul-result-2 : goal.overflow_mul-result-2
overflow_mul-result-2 c =
    let f = (says_fixed_day c.args.d).0 c.requires.d_value in
    record { fits = omega (arith, f.issued) }
