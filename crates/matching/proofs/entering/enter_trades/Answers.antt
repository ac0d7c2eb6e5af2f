-- No trade outside continuous trading or without a price; else one sweep.
use mathlib.Core.Path.{refl}
use Rattle.matching.proofs.Entries.{outside, unpriced, entered}
use Rattle.matching.proofs.entering.enter_trades.Goals as goal

pub returns-then-phase-ne-CONTINUOUS : goal.returns-then-phase-ne-CONTINUOUS
returns-then-phase-ne-CONTINUOUS c =
    let e =
    outside c.args.d c.args.a c.args.rows.now _ c.requires.phase_value _ c.args.trades.now c.if-phase-ne-CONTINUOUS.true c.nothing_yet.ensures in
    record { value = e.0; trades_after = e.1 }

pub returns-then-price-eq0 : goal.returns-then-price-eq0
returns-then-price-eq0 c =
    let e =
    unpriced c.args.d c.args.a _ _ c.requires.phase_value c.requires.own_value c.requires.other_value _ c.entry_price-price.ensures
    _ c.args.trades.now c.if-price-eq0.true c.nothing_yet-then-price-eq0.ensures in
    record { value = e.0; trades_after = e.1 }

pub returns : goal.returns
returns c =
    let e =
    entered c.args.d c.args.a _ _ c.requires.phase_value c.requires.own_value c.requires.other_value _ c.entry_price-price.ensures _ _ c.args.trades.now _ _
    c.requires.ranked c.if-phase-ne-CONTINUOUS.false c.if-price-eq0.false refl c.most_prices.ensures
    (c.sweep.ensures.value, c.sweep.ensures.trades_after) in
    record { value = e.0; trades_after = e.1 }
