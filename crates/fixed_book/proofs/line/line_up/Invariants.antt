-- Those looked at so far stand first, with free places behind them (`Closing`).
use Rattle.fixed_book.proofs.Closing.{Closing}
use Rattle.fixed_book.proofs.line.line_up.Given as goal

abbrev pub invariant-loop-i : goal.invariant-loop-i
invariant-loop-i l = Closing l.initial.rows l.rows l.to l.i
