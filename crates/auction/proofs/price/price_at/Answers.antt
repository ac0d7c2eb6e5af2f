-- One price or none is its own answer; of several the two tie rules leave the nearest of the flattest.
use Prim.Native.Nat.{◌≤◌, ◌<◌}
use native.Mathlib.Omega.{arith}
use Rattle.auction.proofs.Pricing.{price_one, apart, buys_fit, sells_fit, price_several}
use Rattle.auction.proofs.price.price_at.Goals as goal
use Rattle.auction.proofs.price.price_at.Goals.{Else-lo-hi}

-- the span has several prices
wide : (c : Else-lo-hi) → (c.span_at-lo.result.lo < c.span_at-lo.result.hi) × (c.span_at-lo.result.hi ≤ 999_999)
wide c =
    apart c.args.rows.now c.requires.ranked c.requires.middle_value c.requires.end_value c.requires.stop_of c.span_at-lo.ensures c.if-lo-hi.false

pub returns-then-lo-hi : goal.returns-then-lo-hi
returns-then-lo-hi c =
    price_one c.args.rows.now c.requires.ranked c.requires.middle_value c.requires.end_value c.requires.stop_of c.span_at-lo.ensures c.args.reference c.if-lo-hi.true

pub left_at-buys-requires : goal.left_at-buys-requires
left_at-buys-requires c =
    let fit =
    buys_fit c.args.rows.now c.requires.ranked c.requires.middle_value c.requires.end_value c.requires.stop_of c.span_at-lo.ensures c.if-lo-hi.false in
    record { end_in_bounds = fit.0; at_lt_end = fit.1.0; rows_bound = fit.1.1 }

pub left_at-sells-requires : goal.left_at-sells-requires
left_at-sells-requires c =
    let fit =
    sells_fit c.args.rows.now c.requires.ranked c.requires.middle_value c.requires.end_value c.requires.stop_of c.span_at-lo.ensures c.if-lo-hi.false in
    record { end_in_bounds = fit.0; at_lt_end = fit.1.0; rows_bound = fit.1.1 }

pub overflow_add-lo : goal.overflow_add-lo
overflow_add-lo c =
    omega (arith, wide (goal.at.overflow_add-lo c).Else-lo-hi)

pub beside-requires : goal.beside-requires
beside-requires c =
    omega (arith, wide (goal.at.beside-requires c).Else-lo-hi)

pub overflow_sub-hi : goal.overflow_sub-hi
overflow_sub-hi c =
    omega (arith, wide (goal.at.overflow_sub-hi c).Else-lo-hi)

pub beside-requires-2 : goal.beside-requires-2
beside-requires-2 c =
    omega (arith, wide (goal.at.beside-requires-2 c).Else-lo-hi)

pub returns : goal.returns
returns c =
    price_several c.args.rows.now c.requires.ranked c.requires.middle_value c.requires.end_value c.requires.stop_of c.span_at-lo.ensures c.if-lo-hi.false c.args.reference
    c.left_at-buys.ensures c.left_at-sells.ensures c.beside.ensures
    c.flatter-low.ensures c.beside-2.ensures c.flatter-high.ensures
    c.nearest.ensures
