-- `halts::firing::reaches` meets its contract: the trades passed so far are not so far away, so those that are left decide.
-- Assumes nothing.
use mathlib.Core.Path.{sym, ◌∙◌}
use Rattle.model.specs.Figures.{open_price}
use Rattle.halts.proofs.Fires.{price_at, reach_here, reach_later, reach_none}
use Rattle.halts.proofs.firing.reaches.Goals as goal

pub is_away-requires : goal.is_away-requires
unfolding open_price
is_away-requires c =
    let a = c.args in
    record {
      percent_bound = c.requires.percent_bound;
      opened_bound = c.requires.priced.opened;
      price_bound = price_at a.percent a.day a.trades.now c.loop-t.t-index c.loop-t-test.true c.requires.priced;
    }

pub returns-then-is_away : goal.returns-then-is_away
returns-then-is_away c =
    let a = c.args in
    reach_here a.percent a.day a.trades.now c.loop-t.t-index c.loop-t-test.true c.is_away.ensures c.if-is_away.true
    ∙ sym c.loop-t.invariant

pub loop-t-preserved : goal.loop-t-preserved
loop-t-preserved c =
    let a = c.args in
    c.loop-t.invariant
    ∙ reach_later a.percent a.day a.trades.now c.loop-t.t-index c.loop-t-test.true c.is_away.ensures c.if-is_away.false

pub returns : goal.returns
returns c =
    let a = c.args in
    sym (c.loop-t.invariant ∙ reach_none a.percent a.day a.trades.now c.loop-t.t-index c.loop-t-test.false)
