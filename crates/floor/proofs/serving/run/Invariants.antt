-- Turn by turn memory holds what the chunks so far have made of the outset. Assumes nothing.
use Rattle.std.proofs.Common.{◌≤◌}
use Rattle.floor.specs.Serving.{Reached}
use Rattle.floor.proofs.serving.run.Given as goal

abbrev pub invariant-loop : goal.invariant-loop
invariant-loop g l = (l.h.noted ≤ 4096) × Reached l.rows l.claims l.buf l.h
