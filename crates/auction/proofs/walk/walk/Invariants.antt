-- At every turn each side has lost the same shares from its front (`Walked`); what is left of the buys falls.
use Prim.Native.Nat.{◌+◌}
use Rattle.book.specs.Lines.{line}
use Rattle.book.specs.Heads.{waiting}
use Rattle.auction.specs.Walks.{reach}
use Rattle.auction.proofs.Meeting.{Walked}
use Rattle.auction.proofs.walk.walk.Given as goal

abbrev pub invariant-loop-q : goal.invariant-loop-q
invariant-loop-q l = Walked l.rows l.middle l.end l.c l.buy l.sell

abbrev pub decreases-loop-q : goal.decreases-loop-q
decreases-loop-q l = reach 0 0 (waiting l.buy (line (l.buy.at + 1) l.middle l.rows))
