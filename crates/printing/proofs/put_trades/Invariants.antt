-- The trades put so far are the front of all.
use lib.ListN.{take}
use Rattle.model.specs.Lines.{trade_lines}
use Rattle.printing.specs.Printing.{Wrote}
use Rattle.printing.proofs.put_trades.Given as goal

abbrev pub invariant-loop-i : goal.invariant-loop-i
invariant-loop-i l = Wrote l.initial.out l.initial.p (trade_lines (take l.i l.trades)) l.out l.p
