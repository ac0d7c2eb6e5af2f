-- At every turn of either loop the trades made since the loop began, with those still to come, are those that were to come
-- then (`Same`); between two prices the next order begins another one.
use Prim.Native.Nat.{ℕ, ◌+◌, ◌≤◌, ◌<◌}
use lib.ListN.{length, get_or}
use mathlib.Core.Path.{◌≡◌, refl, sym, ap, ◌∙◌}
use mathlib.Core.List.{List, [], ◌∷◌}
use native.Mathlib.Omega.{arith}
use Rattle.model.specs.Book.{free, queue}
use Rattle.model.specs.declared.Order.{Order}
use Rattle.book.specs.Writing.{fitted}
use Rattle.matching.specs.declared.Swept.{Swept}
use Rattle.matching.specs.Sweeping.{wants, swept, comes_to}
use Rattle.matching.proofs.Partners.{other_small, trade_takes}
use Rattle.book.specs.Lines.{line}
use Rattle.book.proofs.Lines.{line_end, line_cons, line_length}
use Rattle.matching.proofs.Sweeps.{against, coming, Same, here, then, nobody, no_price, spent_new, price_opens, spent_same, trade_made, one_more, first_price_lem, outcome, no_next, next_new, price_last, trade_last, fewer}
use Rattle.matching.proofs.sweeping.sweep.Goals as goal
use Rattle.matching.proofs.sweeping.sweep.Goals.{After-places_of-line, At-orders, At-prices, then-most-s-via-then-most-s, then-most-s-via-else-most-s+then-not-wants}
use Rattle.model.specs.declared.Trade.{Trade}
use Rattle.std.proofs.lemmas.List.{get_or_default}

-- the whole line is the other side's queue
all_of :
    (l : After-places_of-line)
    → line l.places_of-line.result.from l.places_of-line.result.to l.args.rows.now
    ≡ against l.args.t l.args.rows.now
all_of l =
    l.places_of-line.ensures.orders ∙ ap (λ n. queue n l.args.rows.now) l.other_side.ensures

-- a line that is not at its end begins with the order at its first place
begins :
    (at end : ℕ) (rows : List Order) (d : Order)
    → at < end
    → end ≤ length rows
    → line at end rows ≡ get_or rows at d ∷ line (at + 1) end rows
begins at end rows d h k = line_cons at end rows h k (get_or_default rows at d free (omega arith))

-- what holds from the function's start to a turn at the orders of a price
so_far :
    (o : At-orders)
    → Same o.args.t o.args.most o.nothing_yet-s.result o.args.quantity
    (line o.places_of-line.result.from o.places_of-line.result.to o.args.rows.now) o.args.trades.now
    o.orders.s o.orders.left (line o.orders.at o.places_of-line.result.to o.args.rows.now) o.orders.trades
so_far o =
    let a = o.args in
    let wanted = sym o.wants.ensures ∙ o.if-not-wants.false in
    let first = begins _ _ _ _ o.prices-test.true o.places_of-line.ensures.within in
    then a.t a.most o.prices.invariant.0
    (then a.t a.most
    (price_opens a.t a.most _ _ _ first o.prices.invariant.1 o.if-most-s.false wanted o.with_price-s.ensures)
    o.orders.invariant.0)

-- and where no trade is to come
ended :
    (p : At-prices) {s : Swept} {left : ℕ} {os : List Order} {out : List Trade}
    → Same p.args.t p.args.most p.nothing_yet-s.result p.args.quantity
    (line p.places_of-line.result.from p.places_of-line.result.to p.args.rows.now) p.args.trades.now
    s left os out
    → coming p.args.t p.args.most s left os ≡ []
    → (s ≡ comes_to (swept p.args.t p.args.most p.args.quantity p.args.rows.now))
    × (out ≡ fitted (swept p.args.t p.args.most p.args.quantity p.args.rows.now) p.args.trades.now)
ended p =
    let a = p.args in
    outcome a.t a.most a.quantity a.rows.now a.trades.now p.requires.stands p.nothing_yet-s.ensures
    (p.places_of-line.ensures.orders ∙ ap (λ n. queue n a.rows.now) p.other_side.ensures)

pub places_of-line-requires : goal.places_of-line-requires
places_of-line-requires c =
    record { ranked = c.requires; side_bound = other_small _ c.other_side.ensures }

pub prices-init : goal.prices-init
prices-init c =
    let a = c.args in (
      here a.t a.most,
      first_price_lem a.t a.most a.quantity a.rows.now a.trades.now c.requires.stands
          c.nothing_yet-s.ensures (all_of (goal.at.prices-init c).After-places_of-line),
    )

pub with_price-s-requires : goal.with_price-s-requires
with_price-s-requires c =
    omega (arith, c.if-most-s.false, c.ranges.most)

pub orders-init : goal.orders-init
orders-init c =
    let a = c.args in
    (here a.t a.most, refl, price_last _ _ _ c.with_price-s.ensures)

pub prices-smaller-in-orders : goal.prices-smaller-in-orders
prices-smaller-in-orders c =
    fewer _ _ c.orders.s _ _ c.with_price-s.ensures c.orders.invariant.1
    c.if-most-s.false

pub prices-preserved-in-orders : goal.prices-preserved-in-orders
prices-preserved-in-orders c =
    (so_far (goal.at.prices-preserved-in-orders c).At-orders, no_next _ (line_end _ _ _ c.orders-test.false))

pub prices-smaller : goal.prices-smaller
prices-smaller c =
    fewer _ _ c.orders.s _ _ c.with_price-s.ensures c.orders.invariant.1
    c.if-most-s.false

pub prices-preserved : goal.prices-preserved
prices-preserved c =
    (so_far (goal.at.prices-preserved c).At-orders, next_new _ _ (begins _ _ _ _ c.orders-test.true c.places_of-line.ensures.within) c.orders.invariant.2 c.if-order-price.true)

pub with_trade-s-requires : goal.with_trade-s-requires
with_trade-s-requires c =
    let a = c.args in
    let all = c.places_of-line in
    let more =
    one_more a.t a.most _ _ _ (begins _ _ _ _ c.orders-test.true c.places_of-line.ensures.within) c.trade_with-trade.ensures (so_far (goal.at.with_trade-s-requires c).At-orders)
    c.nothing_yet-s.ensures
    (omega (
      arith,
      line_length all.result.from all.result.to a.rows.now all.ensures.within,
      c.well_formed.0.0,
      all.ensures.within,
    ))
    c.ranges.quantity.fits in
    record { trades_bound = more.0; quantity_bound = more.1 }

pub overflow_sub-left : goal.overflow_sub-left
overflow_sub-left c =
    trade_takes _ _ _ _ c.trade_with-trade.ensures

pub overflow_add-at : goal.overflow_add-at
overflow_add-at c =
    record {
      fits = omega (
        arith,
        c.orders-test.true,
        c.places_of-line.ensures.within,
        c.well_formed.0.0,
      );
    }

pub orders-smaller : goal.orders-smaller
orders-smaller c =
    omega (arith, c.orders-test.true)

pub orders-preserved : goal.orders-preserved
orders-preserved c =
    let a = c.args in
    let at_price = c.if-order-price.false in
    let kept = trade_last _ _ _ c.with_trade-s.ensures in
    let wanted = ap (wants _ _) at_price ∙ sym c.wants-in-orders.ensures ∙ c.if-not-wants-2.false in (
      then a.t a.most c.orders.invariant.0
          (trade_made a.t a.most _ _ _ (begins _ _ _ _ c.orders-test.true c.places_of-line.ensures.within)
          (at_price ∙ sym c.orders.invariant.2)
          c.trade_with-trade.ensures wanted c.put_trade.ensures
          c.with_trade-s.ensures),
      kept.1 ∙ c.orders.invariant.1,
      kept.0 ∙ c.orders.invariant.2,
    )

pub shape_of-trades-after-prices : goal.shape_of-trades-after-prices
shape_of-trades-after-prices c =
    c.prices.invariant.0.long

pub returns-after-prices : goal.returns-after-prices
returns-after-prices c =
    let a = c.args in
    let all =
    ended (goal.at.returns-after-prices c).At-prices c.prices.invariant.0
    (nobody a.t a.most c.prices.s c.prices.left a.trades.now
    (line_end _ _ _ c.prices-test.false)) in
    record { value = all.0; trades_after = all.1 }

pub shape_of-trades-then-most-s : goal.shape_of-trades-then-most-s
shape_of-trades-then-most-s c =
    c.prices.invariant.0.long

pub returns-then-most-s : goal.returns-then-most-s
returns-then-most-s c =
    let a = c.args in
    let none : coming a.t a.most c.prices.s c.prices.left (line c.prices.at c.places_of-line.result.to a.rows.now) ≡ [] =
    elim c.then-most-s.branch [
      | then-most-s-via-then-most-s w ↦ no_price a.t a.most c.prices.s c.prices.left a.trades.now (begins _ _ _ free c.prices-test.true c.places_of-line.ensures.within) c.prices.invariant.1 w.if-most-s.true
      | then-most-s-via-else-most-s+then-not-wants w ↦
          spent_new a.t a.most c.prices.s c.prices.left a.trades.now (begins _ _ _ _ c.prices-test.true c.places_of-line.ensures.within) c.prices.invariant.1 w.if-most-s.false
          (sym w.wants.ensures ∙ w.if-not-wants.true)
    ] in
    let all =
    ended (goal.at.returns-then-most-s c).At-prices c.prices.invariant.0 none in
    record { value = all.0; trades_after = all.1 }

pub shape_of-trades-then-not-wants-2 : goal.shape_of-trades-then-not-wants-2
shape_of-trades-then-not-wants-2 c =
    c.orders.invariant.0.long ∙ c.prices.invariant.0.long

pub returns-then-not-wants-2 : goal.returns-then-not-wants-2
returns-then-not-wants-2 c =
    let a = c.args in
    let at_price = c.if-order-price.false in
    let spent = ap (wants _ _) at_price ∙ sym c.wants-in-orders.ensures ∙ c.if-not-wants-2.true in
    let all =
    ended (goal.at.returns-then-not-wants-2 c).At-prices (so_far (goal.at.returns-then-not-wants-2 c).At-orders)
    (spent_same a.t a.most c.orders.s c.orders.left a.trades.now
    (begins _ _ _ _ c.orders-test.true c.places_of-line.ensures.within) (at_price ∙ sym c.orders.invariant.2) spent) in
    record { value = all.0; trades_after = all.1 }
