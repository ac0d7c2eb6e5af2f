-- The day is tested only where the line asks something of it. Assumes nothing.
use mathlib.Core.Path.{sym, ◌∙◌}
use Rattle.lines.proofs.AnyMemory.{asks_nothing, asks_none, asks_it}
use Rattle.lines.proofs.asks_unsound.Goals as goal

pub returns-then-not-asks_day : goal.returns-then-not-asks_day
returns-then-not-asks_day c =
    let a = c.args in
    asks_nothing a.c a.desk a.rows.now (sym c.asks_day.ensures ∙ c.if-not-asks_day.true)

pub returns-in_default : goal.returns-in_default
returns-in_default c =
    let a = c.args in
    asks_none a.c a.desk a.rows.now (sym c.asks_day.ensures ∙ c.if-not-asks_day.false) c.in_default.is

pub returns : goal.returns
returns c =
    let a = c.args in
    asks_it a.c a.desk a.rows.now (sym c.asks_day.ensures ∙ c.if-not-asks_day.false) c.in-Open.is
    c.is_sound.ensures
