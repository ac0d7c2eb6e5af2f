-- `records::days::held_screen` meets its contract: its numbers by name, its levels and its surplus. Assumes nothing.
use mathlib.Core.Path.{◌∙◌}
use mir.Syntax.{w64}
use mir.ValLaws.{to_z-of_z}
use Rattle.records.proofs.Held.{screen_held}
use Rattle.records.proofs.days.held_screen.Goals as goal

pub returns : goal.returns
returns c =
    let a = c.args in
    let bits = to_z-of_z w64 c.signed_of.result (record { sfits = c.signed_of.type_inv }) in
    screen_held a.row.now a.at c.held_levels.ensures
    c.held_levels-2.ensures (bits ∙ c.signed_of.ensures)
