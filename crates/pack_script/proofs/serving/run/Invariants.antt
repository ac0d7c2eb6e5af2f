-- Turn by turn memory holds what the chunks so far have made of the outset. Assumes nothing.
use Rattle.pack_script.specs.Serving.{Reached}
use Rattle.pack_script.proofs.serving.run.Given as goal

abbrev pub invariant-loop : goal.invariant-loop
invariant-loop g l = Reached l.buf l.filling l.h
