-- `records::days::held_day` meets its contract: its numbers by name, its screen, and the figures of the other lists. Assumes nothing.
use Rattle.records.proofs.Held.{day_held}
use Rattle.records.proofs.days.held_day.Goals as goal

pub returns : goal.returns
returns c =
    let a = c.args in
    day_held a.row.now c.held_screen.ensures c.held_fixed.ensures c.held_blocks.ensures
