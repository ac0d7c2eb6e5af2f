-- `moves::holding::auction_trades` meets its contract: the pairs at the price that was found are the auction's trades. Assumes nothing.
use mathlib.Core.Path.{◌∙◌, ap}
use mathlib.Core.List.{List}
use Rattle.model.specs.declared.Trade.{Trade}
use Rattle.book.specs.Writing.{fitted}
use Rattle.moves.proofs.AuctionHeld.{trades_found, dealt_found, none_dealt, none_written}
use borrow.Author.Tests.{not-true}
use Rattle.moves.proofs.holding.auction_trades.Goals as goal

pub returns-then-not-buys_reach_sells : goal.returns-then-not-buys_reach_sells
returns-then-not-buys_reach_sells c =
    let book = c.args.rows.now in
    let e = c.buys_reach_sells.ensures in
    let n = not-true _ c.if-not-buys_reach_sells.true-raw in
    record { value = none_dealt c.args.d book c.requires.stands e n; trades_after = none_written c.args.d book c.requires.stands e n c.args.trades.now }

pub returns : goal.returns
returns c =
    let book = c.args.rows.now in
    let r = c.reference_of.ensures in
    let q = c.auction_price-price.ensures in record {
      value = dealt_found c.args.d book c.requires.stands r q c.pair_at-made.ensures.value c.volume_at-shares.ensures;
      trades_after = c.pair_at-made.ensures.trades_after
          ∙ ap (λ (ts : List Trade). fitted ts c.args.trades.now) (trades_found c.args.d book c.requires.stands r q);
    }
