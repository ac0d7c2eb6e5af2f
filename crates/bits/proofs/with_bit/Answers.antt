-- `bits::with_bit` meets its contract: the shift of a 1 loses nothing below the word's width. Assumes nothing.
use Rattle.bits.specs.Words.{with_bit}
use Rattle.bits.proofs.WordLaws.{one_shifted}
use Rattle.bits.proofs.with_bit.Goals as goal

pub returns : goal.returns
unfolding with_bit
returns c = rw (one_shifted c.args.k c.requires)
