-- What was filled comes off the front of the other side.
use Rattle.matching.proofs.Fronts.{buy_entered, sell_entered}
use borrow.Author.Tests.{eq-eqb, ne_eqb}
use Rattle.matching.specs.Settling.{off_other}
use Rattle.matching.proofs.settling.settle_entry.Goals as goal

pub returns-then-side-eq0 : goal.returns-then-side-eq0
unfolding off_other
returns-then-side-eq0 c =
    let e = c.off_sells.ensures in
    record { rows_after = rw (eq-eqb c.args.side 0 c.if-side-eq0.true) e; rows_after_2 = buy_entered _ c.args.rows.now c.requires.stands _ _ c.if-side-eq0.true e }

pub returns-else-side-eq0 : goal.returns-else-side-eq0
unfolding off_other
returns-else-side-eq0 c =
    let e = c.off_buys.ensures in
    record { rows_after = rw (ne_eqb c.args.side 0 c.if-side-eq0.false) e; rows_after_2 = sell_entered _ c.args.rows.now c.requires.stands _ _ c.if-side-eq0.false e }
