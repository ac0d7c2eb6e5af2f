-- `byte_judge::claims::read_claim` meets its contract: the three numbers that were read, by name. Assumes nothing.
use mathlib.Core.Path.{ap}
use Rattle.byte_judge.specs.Claims.{claim_of}
use Rattle.byte_judge.proofs.claims.read_claim.Goals as goal

pub returns : goal.returns
returns c = ap claim_of c.read_numbers.ensures
