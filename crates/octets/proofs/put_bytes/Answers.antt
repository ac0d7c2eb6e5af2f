-- `octets::put_bytes` meets its contract. Assumes nothing.
use native.Mathlib.Omega.{arith}
use Rattle.octets.proofs.Put.{copied}
use Rattle.octets.proofs.put_bytes.Goals as goal

pub returns : goal.returns
returns c = copied _ _ _ c.requires (omega arith) c.copy_from_slice.ensures.after
