-- Nobody passed so far may trade.
use Rattle.fixed_book.proofs.Heads.{Sought}
use Rattle.fixed_book.proofs.walking.head_from.Given as goal

abbrev pub invariant-loop-at : goal.invariant-loop-at
invariant-loop-at l = Sought l.close l.side l.rows l.from l.at
