-- The trades made so far, with those still to come, are the line's (`Underway`); the two sides still to trade grow shorter with each.
use native.Mathlib.Omega.{arith}
use lib.ListN.{length-map}
use Rattle.fixed_book.proofs.Dealing.{underway_start, buy_inside, sell_inside, count_fits, shares_fit_lem, waiting_less, underway_next, underway_end}
use Rattle.fixed_book.proofs.deal_at_close.Goals as goal

pub loop-quantity-init : goal.loop-quantity-init
loop-quantity-init c =
    let a = c.args in
    underway_start a.close a.rows.now a.trades.now c.head_from-buy.ensures c.head_from-sell.ensures
    c.smaller-quantity.ensures

pub trade_at_close-trade-requires : goal.trade_at_close-trade-requires
trade_at_close-trade-requires c = c.loop-quantity.invariant.least

pub overflow_add-made : goal.overflow_add-made
overflow_add-made c =
    let a = c.args in
    record {
      fits = omega (
        arith,
        count_fits a.close a.rows.now a.trades.now c.loop-quantity.invariant c.loop-quantity-test.true
            c.trade_at_close-trade.ensures c.requires,
      );
    }

pub overflow_add-shares : goal.overflow_add-shares
overflow_add-shares c =
    let a = c.args in
    record {
      fits = omega (
        arith,
        shares_fit_lem a.close a.rows.now a.trades.now c.loop-quantity.invariant c.loop-quantity-test.true
            c.trade_at_close-trade.ensures c.requires,
      );
    }

pub head_past-buy-requires : goal.head_past-buy-requires
head_past-buy-requires c =
    let a = c.args in record {
      lined = c.requires;
      at_in_bounds = omega (
        arith,
        buy_inside a.close a.rows.now a.trades.now c.loop-quantity.invariant c.loop-quantity-test.true,
      );
    }

pub head_past-sell-requires : goal.head_past-sell-requires
head_past-sell-requires c =
    let a = c.args in record {
      lined = c.requires;
      at_in_bounds = omega (
        arith,
        sell_inside a.close a.rows.now a.trades.now c.loop-quantity.invariant c.loop-quantity-test.true,
      );
    }

pub loop-quantity-smaller : goal.loop-quantity-smaller
loop-quantity-smaller c =
    let a = c.args in
    waiting_less a.close a.rows.now a.trades.now c.loop-quantity.invariant c.loop-quantity-test.true
    c.trade_at_close-trade.ensures c.head_past-buy.ensures c.head_past-sell.ensures

pub loop-quantity-preserved : goal.loop-quantity-preserved
loop-quantity-preserved c =
    let a = c.args in
    underway_next a.close a.rows.now a.trades.now c.loop-quantity.invariant c.loop-quantity-test.true
    c.trade_at_close-trade.ensures c.head_past-buy.ensures c.head_past-sell.ensures
    c.put_trade.ensures c.smaller-quantity-in-loop-quantity.ensures

pub shape_of-trades : goal.shape_of-trades
shape_of-trades c = c.loop-quantity.invariant.long

pub returns : goal.returns
returns c =
    let a = c.args in
    let end = underway_end a.close a.rows.now a.trades.now c.loop-quantity.invariant c.loop-quantity-test.false in
    record { value = end.0; trades_after = end.1 }
