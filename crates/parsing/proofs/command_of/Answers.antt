-- A line of no form asks for nothing, any other for what its letter wants. Assumes nothing.
use mathlib.Core.Path.{◌∙◌}
use Rattle.parsing.proofs.Forms.{asks_by}
use Rattle.parsing.proofs.command_of.Goals as goal

pub returns-in-Some : goal.returns-in-Some
returns-in-Some c = c.asked_for.ensures ∙ asks_by _ _ c.in-Some.ensures

pub returns-in-None : goal.returns-in-None
returns-in-None c = asks_by _ _ c.in-None.ensures
