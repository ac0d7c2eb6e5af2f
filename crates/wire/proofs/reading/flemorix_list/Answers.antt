-- `wire::reading::flemorix_list` meets its contract: the call on bytes, its prices, and its reply. Assumes nothing.
use Rattle.wire.proofs.Readings.{prices_fit_lem, list_answered}
use Rattle.wire.proofs.reading.flemorix_list.Goals as goal

pub put_prices-requires : goal.put_prices-requires
put_prices-requires c =
    let a = c.args in
    prices_fit_lem a.day.now a.book.now a.prices.now a.asked c.read-told.ensures

pub returns : goal.returns
returns c =
    let a = c.args in
    list_answered a.day.now a.book.now a.prices.now a.asked a.reply.now c.read-told.ensures c.put_prices.ensures c.put_read_reply.ensures
    (λ i. (c.slice_known-1.given i).fits)
