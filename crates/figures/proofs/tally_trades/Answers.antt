-- `figures::tally_trades` meets its contract: no trade adds nothing; else the totals, and the prices of the first and
-- the last. Assumes nothing.
use Prim.Native.Nat.{suc, ◌-◌, ◌<◌}
use mathlib.Core.Path.{◌≡◌, refl}
use lib.ListN.{length, get_or}
use borrow.Author.Tests.{eq-eqb, ne_eqb}
use Rattle.model.specs.Matching.{no_trade}
use native.Mathlib.Omega.{arith}
use Rattle.figures.proofs.Tallies.{tally_zero, tally_some, shares_fit_lem, money_fit}
use Rattle.figures.proofs.tally_trades.Goals as goal
use Rattle.figures.proofs.tally_trades.Goals.{then-day-eq0, else-day-eq0}

pub returns-then-n-eq0 : goal.returns-then-n-eq0
returns-then-n-eq0 c = tally_zero c.args.day c.args.trades.now c.args.n c.if-n-eq0.true

pub overflow_add-result : goal.overflow_add-result
overflow_add-result c = omega (arith, shares_fit_lem _ _ c.totals_of-sum.ensures)

pub overflow_add-result-2 : goal.overflow_add-result-2
overflow_add-result-2 c = omega (arith, money_fit _ _ c.totals_of-sum.ensures)

pub returns : goal.returns
returns c =
    let a = c.args in
    let e : a.n ≡ suc (a.n - 1) = omega arith in
    let h : a.n - 1 < length a.trades.now = omega arith in
    tally_some a.day a.trades.now a.n (a.n - 1) e h _ (get_or a.trades.now 0 no_trade) _ c.totals_of-sum.ensures refl refl c.if-day-eq0.first
    (elim c.if-day-eq0.branch [
      | then-day-eq0 w ↦ rw (eq-eqb a.day.first 0 w.if-day-eq0.true) w.first-is
      | else-day-eq0 w ↦ rw (ne_eqb a.day.first 0 w.if-day-eq0.false) w.first-is
    ])
