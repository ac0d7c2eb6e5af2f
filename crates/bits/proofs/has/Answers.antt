-- `bits::has` meets its contract: past the end there is nothing, and before it the word's bit. Assumes nothing.
use Rattle.bits.specs.Maps.{has_bit}
use mathlib.Core.Path.{sym, ◌∙◌}
use borrow.Author.Tests.{le-ltb}
use Rattle.bits.proofs.MapLaws.{past_end}
use Rattle.bits.proofs.has.Goals as goal

pub returns-then-at-map : goal.returns-then-at-map
unfolding has_bit
returns-then-at-map c = c.bit_of.ensures

pub returns-else-at-map : goal.returns-else-at-map
returns-else-at-map c = le-ltb _ _ c.if-at-map.false ∙ sym (past_end _ _ c.if-at-map.false)
