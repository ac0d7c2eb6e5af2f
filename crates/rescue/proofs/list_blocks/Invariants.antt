-- `rescue::list_blocks` meets its contract: the invariant is `Going`. Assumes nothing.
use Rattle.rescue.proofs.Listing.{Going}
use Rattle.rescue.proofs.list_blocks.Given as goal

abbrev pub invariant-loop-i : goal.invariant-loop-i
invariant-loop-i l = Going l.file l.blocks l.place l.initial.said l.said l.p l.i
