-- Place by place, and then the free places.
use Rattle.blocks.proofs.Staying.{Staying}
use Rattle.blocks.proofs.confirming.close_up.Given as goal

abbrev pub invariant-loop-i : goal.invariant-loop-i
invariant-loop-i l = Staying l.initial.rows l.partner l.rows l.kept l.i
