-- `moves::holding::hold_auction` meets its contract: the trades that were written are added up, and the shares that
-- traded come off the book; the figures have room for them. Assumes nothing.
use mathlib.Core.Path.{◌≡◌}
use native.Mathlib.Omega.{arith}
use lib.ListN.{length}
use Rattle.model.specs.ClockCall.{auction_trades}
use Rattle.book.specs.Standing.{Ranked}
use Rattle.moves.proofs.AuctionHeld.{made_of, auction_settled, start_ranked, held_fits, held}
use Rattle.moves.proofs.holding.hold_auction.Goals as goal
use Rattle.moves.proofs.holding.hold_auction.Goals.{After-auction_trades-dealt, Start}

in_order : (s : Start) → Ranked s.args.rows.now
in_order s = start_ranked s.args.d s.args.rows.now s.args.trades.now s.requires.rows_in_bounds s.requires.underway

-- as many as the auction has
made : (e : After-auction_trades-dealt) → e.auction_trades-dealt.result.made ≡ length (auction_trades e.args.d e.args.rows.now)
made e = made_of e.args.d e.args.rows.now e.auction_trades-dealt.ensures.value

pub auction_trades-dealt-requires : goal.auction_trades-dealt-requires
auction_trades-dealt-requires c = in_order (goal.at.auction_trades-dealt-requires c).Start

pub settle_auction-requires : goal.settle_auction-requires
settle_auction-requires c = in_order (goal.at.settle_auction-requires c).Start

pub tally_trades-requires : goal.tally_trades-requires
tally_trades-requires c = let rest = held_fits c.args.d c.args.rows.now c.args.trades.now c.requires.rows_in_bounds (made (goal.at.tally_trades-requires c).After-auction_trades-dealt) c.auction_trades-dealt.ensures.trades_after c.auction_trades-dealt.auto.trades
    c.requires.underway in
    record { n_in_bounds = omega (arith, made (goal.at.tally_trades-requires c).After-auction_trades-dealt, c.requires.rows_in_bounds, c.auction_trades-dealt.auto.trades); trades_bound = rest.0; trades_bound_2 = rest.1 }

pub returns : goal.returns
returns c =
    let a = c.args in
    held a.d a.rows.now a.trades.now c.requires.rows_in_bounds (made (goal.at.returns c).After-auction_trades-dealt) c.auction_trades-dealt.ensures.trades_after c.auction_trades-dealt.auto.trades
    c.tally_trades.ensures
    (auction_settled a.d a.rows.now (in_order (goal.at.returns c).Start).stands c.auction_trades-dealt.ensures.value c.settle_auction.ensures.by_index)
