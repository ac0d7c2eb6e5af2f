-- `bits::set_bit` meets its contract: one word is set, where the map has it. Assumes nothing.
use mathlib.Core.Path.{sym}
use Rattle.bits.specs.Maps.{marked}
use Rattle.bits.proofs.MapLaws.{marked_past_end}
use Rattle.bits.proofs.set_bit.Goals as goal

pub returns-then-at-map : goal.returns-then-at-map
unfolding marked
returns-then-at-map c = rw c.with_bit.ensures

pub returns-else-at-map : goal.returns-else-at-map
returns-else-at-map c = sym (marked_past_end _ _ c.if-at-map.false)
