-- Turn by turn the line is what the chunks so far have left. Assumes nothing.
use Rattle.convert_script.specs.Turns.{Reached}
use Rattle.convert_script.proofs.serving.run.Given as goal

abbrev pub invariant-loop : goal.invariant-loop
invariant-loop g l = Reached l.line
