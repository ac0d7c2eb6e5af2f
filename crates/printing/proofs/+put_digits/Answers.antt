-- By recursion on the number: its digits are those of a tenth and one more.
use native.Mathlib.Omega.{arith}
use Rattle.printing.proofs.Printed.{put_one_digit, put_last_digit, tenth_short}
use Rattle.printing.proofs.+put_digits.Goals as goal

pub returns-then-x-lt10 : goal.returns-then-x-lt10
returns-then-x-lt10 t c =
    put_one_digit c.args.out.now c.args.at c.args.x _ c.if-x-lt10.true c.digit.ensures

pub bounds-out-last : goal.bounds-out-last
bounds-out-last t c = omega (arith, tenth_short c.args.x c.ranges.x.fits, c.put_digits-last)

pub overflow_add-result-2 : goal.overflow_add-result-2
overflow_add-result-2 t c = omega (arith, tenth_short c.args.x c.ranges.x.fits, c.put_digits-last)

pub returns : goal.returns
returns t c =
    let s = c.args in
    put_last_digit
    s.out.now
    s.at
    s.x
    _
    c.if-x-lt10.false
    c.ranges.x.fits
    c.digit-2.ensures
    c.put_digits-last.ensures
