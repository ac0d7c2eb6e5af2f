-- `moves::holding::end_halt` meets its contract: the auction's state with the halt over, and what its price fires. Assumes nothing.
use Rattle.moves.proofs.AuctionHeld.{ended_priced, ended_close, ended_else}
use Rattle.moves.proofs.holding.end_halt.Goals as goal

pub returns-then-second-eq-CLOSING_CALL : goal.returns-then-second-eq-CLOSING_CALL
returns-then-second-eq-CLOSING_CALL c =
    let a = c.args in
    ended_close a.d a.rows.now a.trades.now c.hold_auction-held.ensures c.resume_day-over.ensures a.second c.if-second-eq-CLOSING_CALL.true

pub fire-requires : goal.fire-requires
fire-requires c =
    let a = c.args in record { second_bound = c.requires.second_bound; n_in_bounds = c.hold_auction-held.ensures.within; priced = ended_priced a.d a.rows.now a.trades.now c.hold_auction-held.ensures c.resume_day-over.ensures c.requires.underway }

pub returns : goal.returns
returns c =
    let a = c.args in
    ended_else a.d a.rows.now a.trades.now c.hold_auction-held.ensures c.resume_day-over.ensures a.second c.if-second-eq-CLOSING_CALL.false c.fire.ensures
