-- `unpack::put_records` meets its contract. Assumes nothing.
use native.Mathlib.Omega.{arith}
use Rattle.unpack.proofs.Put.{listing_start, listing_next, listing_end}
use Rattle.unpack.proofs.put_records.Goals as goal

pub loop-i-init : goal.loop-i-init
loop-i-init c = listing_start _ _ _ _

pub put_event-p-requires : goal.put_event-p-requires
put_event-p-requires c = omega (arith, c.loop-i.invariant.room, c.loop-i.invariant.long, c.requires)

pub loop-i-preserved : goal.loop-i-preserved
loop-i-preserved c = listing_next _ _ _ _ c.loop-i.invariant c.loop-i-test.true c.event_at.ensures c.put_event-p.ensures

pub shape_of-out : goal.shape_of-out
shape_of-out c = c.loop-i.invariant.long

pub returns : goal.returns
returns c = listing_end _ _ _ _ c.loop-i.invariant c.loop-i-test.false
