-- The trades made so far, with those still to come, are the auction's (`Underway`); the volume that is left falls with each.
use native.Mathlib.Omega.{arith}
use Rattle.auction.proofs.Stretches.{Stretches, stretches_of}
use Rattle.pairing.proofs.Dealing.{underway_start, buy_ready, sell_ready, quantity_some, count_fits, underway_next, underway_end}
use Rattle.pairing.proofs.pair_at.Goals as goal
use Rattle.pairing.proofs.pair_at.Goals.{After-free_from-end}

sides :
    (f : After-free_from-end)
    → Stretches f.args.rows.now f.sells_from-middle.result f.free_from-end.result
sides f =
    stretches_of f.args.rows.now f.requires.ranked f.sells_from-middle.ensures f.free_from-end.ensures

pub head_at-buy-requires : goal.head_at-buy-requires
head_at-buy-requires c = (sides c).short_buys

pub head_at-sell-requires : goal.head_at-sell-requires
head_at-sell-requires c =
    (sides (goal.at.head_at-sell-requires c).After-free_from-end).short_sells

pub loop-left-init : goal.loop-left-init
loop-left-init c =
    let a = c.args in
    let w = sides (goal.at.loop-left-init c).After-free_from-end in
    underway_start a.rows.now c.requires.ranked w a.price a.trades.now
    c.requires.shares_value c.head_at-buy.ensures c.head_at-sell.ensures

pub overflow_add-made : goal.overflow_add-made
overflow_add-made c =
    let a = c.args in
    let w = sides (goal.at.overflow_add-made c).After-free_from-end in
    record {
      fits = omega (
        arith,
        count_fits a.rows.now c.requires.ranked w a.price a.trades.now c.loop-left.invariant c.loop-left-test.true
            c.trade_of_heads-trade.ensures.value,
      );
    }

pub head_past-buy-requires : goal.head_past-buy-requires
head_past-buy-requires c =
    let a = c.args in
    let w = sides (goal.at.head_past-buy-requires c).After-free_from-end in record {
      end_in_bounds = w.short_buys;
      at_lt_end = (buy_ready a.rows.now c.requires.ranked w a.price a.trades.now
          c.loop-left.invariant c.loop-left-test.true).1;
    }

pub head_past-sell-requires : goal.head_past-sell-requires
head_past-sell-requires c =
    let a = c.args in
    let w = sides (goal.at.head_past-sell-requires c).After-free_from-end in record {
      end_in_bounds = w.short_sells;
      at_lt_end = (sell_ready a.rows.now c.requires.ranked w a.price a.trades.now
          c.loop-left.invariant c.loop-left-test.true).1;
    }

pub overflow_sub-left : goal.overflow_sub-left
overflow_sub-left c =
    let a = c.args in
    let w = sides (goal.at.overflow_sub-left c).After-free_from-end in
    (quantity_some a.rows.now c.requires.ranked w a.price a.trades.now
    c.loop-left.invariant c.loop-left-test.true c.trade_of_heads-trade.ensures.value).1

pub loop-left-smaller : goal.loop-left-smaller
loop-left-smaller c =
    let a = c.args in
    let w = sides (goal.at.loop-left-smaller c).After-free_from-end in
    omega (
      arith,
      quantity_some a.rows.now c.requires.ranked w a.price a.trades.now
          c.loop-left.invariant c.loop-left-test.true c.trade_of_heads-trade.ensures.value,
    )

pub loop-left-preserved : goal.loop-left-preserved
loop-left-preserved c =
    let a = c.args in
    let w = sides (goal.at.loop-left-preserved c).After-free_from-end in
    underway_next a.rows.now c.requires.ranked w a.price a.trades.now
    c.loop-left.invariant c.loop-left-test.true c.trade_of_heads-trade.ensures.value
    c.put_trade.ensures c.head_past-buy.ensures c.head_past-sell.ensures

pub shape_of-trades : goal.shape_of-trades
shape_of-trades c =
    c.loop-left.invariant.long

pub returns : goal.returns
returns c =
    let a = c.args in
    let w = sides (goal.at.returns c).After-free_from-end in
    let e =
    underway_end a.rows.now c.requires.ranked w a.price a.trades.now
    c.loop-left.invariant c.loop-left-test.false in
    record { value = e.0; trades_after = e.1 }
