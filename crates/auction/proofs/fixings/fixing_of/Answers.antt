-- Zeros where no price is left; else what the walk has traded, and what it has left at the price.
use Rattle.auction.proofs.Filling.{fixing_none, left_buys_fit, left_sells_fit, left_small, fixing_some}
use Rattle.auction.proofs.fixings.fixing_of.Goals as goal

pub returns-then-price-eq0 : goal.returns-then-price-eq0
returns-then-price-eq0 c =
    fixing_none _ c.args.reference c.price_at-price.ensures c.if-price-eq0.true

pub left_at-buys-requires : goal.left_at-buys-requires
left_at-buys-requires c =
    let fit =
    left_buys_fit c.args.rows.now c.requires c.sells_from-middle.ensures c.free_from-end.ensures
    c.walk-stop.ensures c.args.reference c.price_at-price.ensures c.if-price-eq0.false in
    record { end_in_bounds = fit.0; at_lt_end = fit.1.0; rows_bound = fit.1.1 }

pub left_at-sells-requires : goal.left_at-sells-requires
left_at-sells-requires c =
    let fit =
    left_sells_fit c.args.rows.now c.requires c.sells_from-middle.ensures c.free_from-end.ensures
    c.walk-stop.ensures c.args.reference c.price_at-price.ensures c.if-price-eq0.false in
    record { end_in_bounds = fit.0; at_lt_end = fit.1.0; rows_bound = fit.1.1 }

pub surplus_of-requires : goal.surplus_of-requires
surplus_of-requires c =
    left_small c.args.rows.now c.requires c.sells_from-middle.ensures c.free_from-end.ensures
    c.walk-stop.ensures c.args.reference c.price_at-price.ensures c.if-price-eq0.false
    c.left_at-buys.ensures c.left_at-sells.ensures

pub returns : goal.returns
returns c =
    fixing_some c.args.rows.now c.requires c.sells_from-middle.ensures c.free_from-end.ensures
    c.walk-stop.ensures c.args.reference c.price_at-price.ensures c.if-price-eq0.false
    c.left_at-buys.ensures c.left_at-sells.ensures c.surplus_of.ensures
