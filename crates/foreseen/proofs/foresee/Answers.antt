-- `foreseen::foresee` meets its contract: no stop, no trade, or the trades of the first auction. Assumes nothing.
use Rattle.foreseen.proofs.Closes.{no_stop, no_share, some_shares}
use Rattle.foreseen.proofs.foresee.Goals as goal

pub returns-then-next_stop-eq0 : goal.returns-then-next_stop-eq0
returns-then-next_stop-eq0 c =
    no_stop c.args.d c.args.time _ c.requires.ready.ranked c.requires.time_le_time c.next_stop.ensures c.reference_of-close.ensures c.if-next_stop-eq0.true

pub auction_trades-counted-requires : goal.auction_trades-counted-requires
auction_trades-counted-requires c = c.requires.ready.ranked

pub returns-then-counted-eq0 : goal.returns-then-counted-eq0
returns-then-counted-eq0 c =
    no_share c.args.d c.args.time _ c.requires.ready.ranked c.requires.time_le_time c.next_stop.ensures c.reference_of-close.ensures
    c.if-next_stop-eq0.false c.auction_trades-counted.ensures.value c.if-counted-eq0.true

pub auction_price-requires : goal.auction_price-requires
auction_price-requires c = c.requires.ready.ranked

pub returns : goal.returns
returns c =
    some_shares c.args.d c.args.time _ c.requires.ready.ranked c.requires.time_le_time c.next_stop.ensures c.reference_of-close.ensures
    c.if-next_stop-eq0.false c.auction_trades-counted.ensures.value c.if-counted-eq0.false c.auction_price.ensures
