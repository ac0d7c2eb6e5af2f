-- Turn by turn memory holds what the chunks so far have made of the outset. Assumes nothing.
use Rattle.rehearse.specs.Serving.{Reached}
use Rattle.rehearse.proofs.serving.run.Given as goal

abbrev pub invariant-loop : goal.invariant-loop
invariant-loop g l = Reached l.rows l.buf l.h
