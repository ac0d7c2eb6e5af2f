-- `judging::calls::price_verdict` meets its contract: 15, another price, or the one that is left. Assumes nothing.
use mathlib.Core.Path.{◌≡◌}
use native.Mathlib.Omega.{arith}
use Rattle.soundness.proofs.Readiness.{is_unsound, not_unsound, ready}
use Rattle.moves.proofs.AuctionHeld.{price_found}
use Rattle.judging.proofs.Deciding.{price_refused, price_wrong, price_right}
use Rattle.judging.proofs.calls.price_verdict.Goals as goal

pub returns-then-not-is_sound : goal.returns-then-not-is_sound
returns-then-not-is_sound c = price_refused _ _ _ (is_unsound _ _ c.is_sound.ensures c.if-not-is_sound.true)

pub auction_price-requires : goal.auction_price-requires
auction_price-requires c = (ready _ _ c.is_sound.ensures c.if-not-is_sound.false).ranked

pub returns-then-price-auction_price : goal.returns-then-price-auction_price
returns-then-price-auction_price c =
    let other : c.args.price ≡ c.auction_price.result → ⊥ = λ e. omega arith in
    price_wrong _ _ _ (not_unsound _ _ c.is_sound.ensures c.if-not-is_sound.false)
    (price_found _ _ c.reference_of.ensures c.auction_price.ensures) other

pub returns-else-price-auction_price : goal.returns-else-price-auction_price
returns-else-price-auction_price c =
    price_right _ _ _ (not_unsound _ _ c.is_sound.ensures c.if-not-is_sound.false)
    (price_found _ _ c.reference_of.ensures c.auction_price.ensures) c.if-price-auction_price.false
