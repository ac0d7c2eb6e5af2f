-- Place by place.
use Rattle.blocks.proofs.Dealing.{Dealing}
use Rattle.blocks.proofs.confirming.write_confirmed.Given as goal

abbrev pub invariant-loop-i : goal.invariant-loop-i
invariant-loop-i l = Dealing l.rows l.partner l.initial.trades l.trades l.sofar l.i
