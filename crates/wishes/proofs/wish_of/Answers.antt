-- A line of no form asks for nothing, any other for what its letter wants. Assumes nothing.
use mathlib.Core.Path.{◌∙◌}
use Rattle.floors.specs.Wishes.{wish_of}
use Rattle.wishes.proofs.Asking.{wishes_by}
use Rattle.wishes.proofs.wish_of.Goals as goal

pub returns-in-Some : goal.returns-in-Some
returns-in-Some c = c.wished.ensures ∙ wishes_by _ _ c.in-Some.ensures

pub returns-in-None : goal.returns-in-None
unfolding wish_of
returns-in-None c = wishes_by _ _ c.in-None.ensures
