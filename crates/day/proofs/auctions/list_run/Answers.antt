-- `day::auctions::list_run` meets its contract: refused, or the run of the prices that are due. Assumes nothing.
use borrow.Author.Tests.{not-true, not-false}
use Rattle.soundness.proofs.Readiness.{is_unsound, not_unsound, ready}
use Rattle.day.proofs.AuctionLaws.{list_refused, list_accepted}
use Rattle.day.proofs.auctions.list_run.Goals as goal

pub returns-then-not-is_sound : goal.returns-then-not-is_sound
returns-then-not-is_sound c = list_refused _ _ _ _ (is_unsound _ _ c.is_sound.ensures (not-true _ c.if-not-is_sound.true-raw))

pub run_of-requires : goal.run_of-requires
run_of-requires c = (ready _ _ c.is_sound.ensures (not-false _ c.if-not-is_sound.false-raw)).ranked

pub returns : goal.returns
returns c =
    list_accepted _ _ _ _ (not_unsound _ _ c.is_sound.ensures (not-false _ c.if-not-is_sound.false-raw)) c.run_of.ensures
