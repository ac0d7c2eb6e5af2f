-- `fronts::look` meets its contract: the invariant is `Looking`. Assumes nothing.
use Rattle.fronts.proofs.Looks.{Looking}
use Rattle.fronts.proofs.look.Given as goal

abbrev pub invariant-loop-good : goal.invariant-loop-good
invariant-loop-good l = Looking l.whole l.blocks l.place l.file l.records l.good
