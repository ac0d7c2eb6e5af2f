-- `moves::moving::lacks_places` meets its contract: as many places as the book has are enough; no stop is no trade; else the trades of
-- the first auction are counted. Assumes nothing.
use Rattle.moves.proofs.ClockLaws.{list_holds_move, none_lacks, auction_lacks}
use Rattle.moves.proofs.moving.lacks_places.Goals as goal

pub returns-then-rows-places : goal.returns-then-rows-places
returns-then-rows-places c =
    let a = c.args in
    list_holds_move a.d a.time a.rows.now c.requires.ready.ranked a.places c.if-rows-places.true

pub returns-then-next_stop-eq0 : goal.returns-then-next_stop-eq0
returns-then-next_stop-eq0 c =
    let a = c.args in
    none_lacks a.d a.time a.rows.now c.requires.ready.ranked a.places c.requires.time_le_time c.next_stop.ensures c.if-next_stop-eq0.true

pub auction_trades-counted-requires : goal.auction_trades-counted-requires
auction_trades-counted-requires c = c.requires.ready.ranked

pub returns : goal.returns
returns c =
    let a = c.args in
    auction_lacks a.d a.time a.rows.now c.requires.ready.ranked a.places c.requires.time_le_time c.next_stop.ensures c.if-next_stop-eq0.false
    c.auction_trades-counted.ensures.value
