-- Each turn shows the next price; after five the lines are the side's.
use Rattle.levels.proofs.Nexts.{showing_start, showing_next, showing_end}
use Rattle.levels.proofs.levels_of.Goals as goal

pub loop-init : goal.loop-init
loop-init c =
    (c.places_of-line.ensures.within, showing_start c.args.side c.args.rows.now c.places_of-line.ensures c.no_levels-levels.ensures)

pub loop-preserved : goal.loop-preserved
loop-preserved c =
    let inv = c.loop.invariant in
    (inv.0, showing_next c.args.side c.args.rows.now inv.1 inv.0 c.loop-test.true c.next_from-next.ensures c.moved_up-levels.ensures)

pub returns : goal.returns
returns c =
    showing_end c.args.side c.args.rows.now c.loop.invariant.1 c.loop-test.false c.requires.ranked
