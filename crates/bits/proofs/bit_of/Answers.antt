-- `bits::bit_of` meets its contract: a shift down, and the lowest bit. Assumes nothing.
use mathlib.Core.Path.{refl}
use Rattle.bits.specs.Words.{bit}
use Rattle.bits.proofs.bit_of.Goals as goal

pub returns : goal.returns
unfolding bit
returns c = refl
