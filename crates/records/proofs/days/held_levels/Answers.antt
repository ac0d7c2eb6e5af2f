-- `records::days::held_levels` meets its contract: one level after the other. Assumes nothing.
use Rattle.records.proofs.Held.{levels_held}
use Rattle.records.proofs.days.held_levels.Goals as goal

pub returns : goal.returns
returns c =
    let a = c.args in
    levels_held a.row.now a.at
    c.held_level.ensures
    c.held_level-2.ensures
    c.held_level-3.ensures
    c.held_level-4.ensures
    c.held_level-5.ensures
