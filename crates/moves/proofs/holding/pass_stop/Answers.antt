-- `moves::holding::pass_stop` meets its contract: the opening auction, the end of a halt, or the close. Assumes nothing.
use Rattle.moves.proofs.AuctionHeld.{reached_opening, reached_end, reached_close}
use Rattle.moves.proofs.holding.pass_stop.Goals as goal

pub returns-then-second-eq-OPENING_AUCTION : goal.returns-then-second-eq-OPENING_AUCTION
returns-then-second-eq-OPENING_AUCTION c =
    let a = c.args in
    reached_opening a.second a.d a.rows.now c.if-second-eq-OPENING_AUCTION.true c.hold_auction.ensures

pub returns-then-second-d : goal.returns-then-second-d
returns-then-second-d c =
    let a = c.args in
    reached_end a.second a.d a.rows.now c.if-second-eq-OPENING_AUCTION.false c.if-second-d.true c.end_halt.ensures

pub returns-else-second-d : goal.returns-else-second-d
returns-else-second-d c =
    let a = c.args in
    reached_close a.second a.d a.rows.now c.if-second-eq-OPENING_AUCTION.false c.requires.second_value c.if-second-d.false c.close_book.ensures
