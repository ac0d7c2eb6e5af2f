-- It stays, or it has a partner.
use mathlib.Core.Path.{refl}
use Rattle.blocks.proofs.Staying.{leaves_place, stays_place}
use Rattle.blocks.proofs.confirming.stay_place.Goals as goal

pub returns-then-partner-eq0 : goal.returns-then-partner-eq0
returns-then-partner-eq0 c = stays_place c.if-partner-eq0.true refl

pub returns-else-partner-eq0 : goal.returns-else-partner-eq0
returns-else-partner-eq0 c = leaves_place c.if-partner-eq0.false
