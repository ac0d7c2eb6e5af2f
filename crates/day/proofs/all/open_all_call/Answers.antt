-- `day::all::open_all_call` meets its contract: refused by one test, else every place of each list is cleared. Assumes nothing.
use mathlib.Core.Path.{sym, ◌∙◌}
use borrow.Author.Tests.{not-true, not-false}
use Rattle.day.proofs.Openings.{all_refused, all_accepted}
use Rattle.day.proofs.all.open_all_call.Goals as goal

pub returns-then-not-may_open_all : goal.returns-then-not-may_open_all
returns-then-not-may_open_all c =
    let a = c.args in
    all_refused a.close a.mark a.main.now a.fixed.now a.blocks.now (sym c.may_open_all.ensures ∙ not-true _ c.if-not-may_open_all.true-raw)

pub returns : goal.returns
returns c =
    let a = c.args in
    all_accepted a.close a.mark a.main.now a.fixed.now a.blocks.now (sym c.may_open_all.ensures ∙ not-false _ c.if-not-may_open_all.false-raw)
    c.fresh_day.ensures
    c.clear_rows.ensures
    c.clear_rows-2.ensures
    c.clear_held.ensures
