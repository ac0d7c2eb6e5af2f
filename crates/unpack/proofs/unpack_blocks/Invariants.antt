-- `unpack::unpack_blocks` meets its contract: the invariant is `Going`. Assumes nothing.
use Rattle.unpack.proofs.Put.{Going}
use Rattle.unpack.proofs.unpack_blocks.Given as goal

abbrev pub invariant-loop-good : goal.invariant-loop-good
invariant-loop-good l = Going l.whole l.blocks l.place l.file l.initial.out l.out l.next l.good
