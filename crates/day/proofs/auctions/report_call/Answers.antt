-- `day::auctions::report_call` meets its contract: 15, or the report at the price that is left. Assumes nothing.
use borrow.Author.Tests.{not-true, not-false}
use Rattle.soundness.specs.Ready.{Ready}
use Rattle.soundness.proofs.Readiness.{is_unsound, not_unsound, ready}
use Rattle.moves.proofs.AuctionHeld.{price_found}
use Rattle.day.proofs.AuctionLaws.{report_refused, report_accepted}
use Rattle.day.proofs.auctions.report_call.Goals as goal
use Rattle.day.proofs.auctions.report_call.Goals.{Else-not-is_sound}

pub returns-then-not-is_sound : goal.returns-then-not-is_sound
returns-then-not-is_sound c = report_refused _ _ (is_unsound _ _ c.is_sound.ensures (not-true _ c.if-not-is_sound.true-raw))

-- past the test the day is sound
sound : (c : Else-not-is_sound) → Ready c.args.d c.args.rows.now
sound c = ready _ _ c.is_sound.ensures (not-false _ c.if-not-is_sound.false-raw)

pub auction_price-price-requires : goal.auction_price-price-requires
auction_price-price-requires c = (sound (goal.at.auction_price-price-requires c).Else-not-is_sound).ranked

pub report_at-requires : goal.report_at-requires
report_at-requires c = (sound (goal.at.report_at-requires c).Else-not-is_sound).ranked

pub returns : goal.returns
returns c =
    report_accepted _ _ (not_unsound _ _ c.is_sound.ensures (not-false _ c.if-not-is_sound.false-raw))
    (price_found _ _ c.reference_of.ensures c.auction_price-price.ensures)
    c.report_at.ensures
