-- `day::opening::open_call` meets its contract: refused by one test, else every place is cleared. Assumes nothing.
use mathlib.Core.Path.{sym, ◌∙◌}
use borrow.Author.Tests.{not-true, not-false}
use Rattle.day.proofs.Openings.{open_refused, open_accepted}
use Rattle.day.proofs.opening.open_call.Goals as goal

pub returns-then-not-may_open : goal.returns-then-not-may_open
returns-then-not-may_open c =
    let a = c.args in
    open_refused a.close a.mark a.rows.now (sym c.may_open.ensures ∙ not-true _ c.if-not-may_open.true-raw)

pub returns : goal.returns
returns c =
    let a = c.args in
    open_accepted a.close a.mark a.rows.now _ _
    (sym c.may_open.ensures ∙ not-false _ c.if-not-may_open.false-raw)
    c.fresh_day.ensures
    c.clear_rows.ensures
