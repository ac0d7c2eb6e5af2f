-- `halts::firing::is_away` meets its contract: the definition's two tests, one after the other; the products fit. Assumes nothing.
use Prim.Native.Nat.{◌+◌, ◌-◌, ◌≤◌}
use native.Mathlib.Nat.{mul-le-mul_right}
use native.Mathlib.Omega.{arith}
use Rattle.halts.proofs.Fires.{away_up, away_down}
use Rattle.halts.proofs.firing.is_away.Goals as goal

pub overflow_mul-percent : goal.overflow_mul-percent
overflow_mul-percent c =
    let l : 100 + c.args.percent ≤ 200 = omega arith in omega (arith, mul-le-mul_right c.args.opened l)

pub overflow_mul-result-else-percent-opened : goal.overflow_mul-result-else-percent-opened
overflow_mul-result-else-percent-opened c =
    let a = c.args in
    let l : 100 - c.args.percent ≤ 100 = omega arith in
    omega (arith, mul-le-mul_right a.opened l)

pub returns-then-percent-opened : goal.returns-then-percent-opened
returns-then-percent-opened c = away_up c.args.percent c.args.opened c.args.price c.if-percent-opened.true

pub returns-else-percent-opened : goal.returns-else-percent-opened
returns-else-percent-opened c = away_down c.args.percent c.args.opened c.args.price c.if-percent-opened.false
