-- `unpack::put_records` meets its contract: the invariant is `Listing`. Assumes nothing.
use Rattle.unpack.proofs.Put.{Listing}
use Rattle.unpack.proofs.put_records.Given as goal

abbrev pub invariant-loop-i : goal.invariant-loop-i
invariant-loop-i l = Listing l.block l.n l.initial.out l.at l.out l.p l.i
