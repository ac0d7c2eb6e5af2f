-- All prices up to the last, or as many as there are places.
use native.Mathlib.Omega.{arith}
use Rattle.auction.proofs.Writing.{within_whole, within_front}
use Rattle.auction.proofs.listing.run_between.Goals as goal

pub returns-then-due-places : goal.returns-then-due-places
returns-then-due-places c = within_whole _ _ _ (omega arith) c.if-due-places.true

pub returns : goal.returns
returns c = within_front _ _ _ c.if-due-places.false
