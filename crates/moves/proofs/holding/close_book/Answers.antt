-- `moves::holding::close_book` meets its contract: the trades that were written are added up, and all that rests lapses;
-- the figures have room for them. Assumes nothing.
use mathlib.Core.Path.{◌≡◌}
use native.Mathlib.Omega.{arith}
use lib.ListN.{length}
use Rattle.model.specs.ClockCall.{auction_trades}
use Rattle.book.specs.Standing.{Ranked}
use Rattle.moves.proofs.AuctionHeld.{made_of, start_ranked, held_fits, closed}
use Rattle.moves.proofs.holding.close_book.Goals as goal
use Rattle.moves.proofs.holding.close_book.Goals.{After-auction_trades-dealt, Start}

in_order : (s : Start) → Ranked s.args.rows.now
in_order s = start_ranked s.args.d s.args.rows.now s.args.trades.now s.requires.rows_in_bounds s.requires.underway

-- as many as the auction has
made : (e : After-auction_trades-dealt) → e.auction_trades-dealt.result.made ≡ length (auction_trades e.args.d e.args.rows.now)
made e = made_of e.args.d e.args.rows.now e.auction_trades-dealt.ensures.value

pub auction_trades-dealt-requires : goal.auction_trades-dealt-requires
auction_trades-dealt-requires c = in_order (goal.at.auction_trades-dealt-requires c).Start

pub tally_trades-requires : goal.tally_trades-requires
tally_trades-requires c = let rest = held_fits c.args.d c.args.rows.now c.args.trades.now c.requires.rows_in_bounds (made (goal.at.tally_trades-requires c).After-auction_trades-dealt) c.auction_trades-dealt.ensures.trades_after c.auction_trades-dealt.auto.trades
    c.requires.underway in
    record { n_in_bounds = omega (arith, made (goal.at.tally_trades-requires c).After-auction_trades-dealt, c.requires.rows_in_bounds, c.auction_trades-dealt.auto.trades); trades_bound = rest.0; trades_bound_2 = rest.1 }

pub returns : goal.returns
returns c =
    let a = c.args in
    closed a.d a.rows.now a.trades.now c.requires.rows_in_bounds (made (goal.at.returns c).After-auction_trades-dealt) c.auction_trades-dealt.ensures.trades_after c.auction_trades-dealt.auto.trades
    c.tally_trades.ensures
    c.clear_rows.ensures
