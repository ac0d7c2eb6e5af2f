-- Turn by turn memory holds what the chunks so far have made of the outset. Assumes nothing.
use Rattle.rescue_file.specs.Serving.{Reached}
use Rattle.rescue_file.proofs.serving.run.Given as goal

abbrev pub invariant-loop : goal.invariant-loop
invariant-loop g l = Reached l.buf l.h
