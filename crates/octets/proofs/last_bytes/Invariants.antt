-- `octets::last_bytes` meets its contract: the invariant is `Writing`. Assumes nothing.
use Rattle.octets.proofs.Put.{Writing}
use Rattle.octets.proofs.last_bytes.Given as goal

abbrev pub invariant-loop-byte : goal.invariant-loop-byte
invariant-loop-byte g l = Writing g.row.N l.x l.byte-items l.rest l.byte-index
