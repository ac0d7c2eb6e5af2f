-- Zeros outside the calls, else what the auction would come to.
use Rattle.screens.proofs.Counted.{shown_none, shown_some}
use Rattle.screens.proofs.counting.shown_of.Goals as goal

pub returns-then-not-shows : goal.returns-then-not-shows
returns-then-not-shows c =
    shown_none c.args.day _ c.phase_now-phase.ensures c.shows.ensures c.if-not-shows.true-raw

pub returns : goal.returns
returns c =
    shown_some c.args.day _ c.phase_now-phase.ensures c.shows.ensures c.if-not-shows.false-raw
    c.reference_of.ensures c.fixing_of.ensures
