-- At every turn each side has lost the same shares from its front (`Walked`); what is left of the buys falls.
use mathlib.Core.Path.{sym, ◌∙◌}
use Rattle.auction.proofs.Stretches.{Stretches, stretches_of}
use Rattle.auction.proofs.Meeting.{walked_start, buy_inside, sell_inside, shares_fit_lem, walk_less, walked_next, walked_end}
use Rattle.auction.proofs.walk.walk.Goals as goal
use Rattle.auction.proofs.walk.walk.Goals.{Start}

sides : (s : Start) → Stretches s.args.rows.now s.args.middle s.args.end
sides s = stretches_of s.args.rows.now s.requires.ranked s.requires.middle_value s.requires.end_value

pub head_at-buy-requires : goal.head_at-buy-requires
head_at-buy-requires c = (sides c).short_buys

pub head_at-sell-requires : goal.head_at-sell-requires
head_at-sell-requires c =
    (sides (goal.at.head_at-sell-requires c).Start).short_sells

pub loop-q-init : goal.loop-q-init
loop-q-init c =
    walked_start c.args.rows.now c.requires.ranked (sides (goal.at.loop-q-init c).Start) c.head_at-buy.ensures c.head_at-sell.ensures

pub crossed_by-c-requires : goal.crossed_by-c-requires
crossed_by-c-requires c =
    let meet = sym c.crossing.ensures ∙ c.loop-q-test.true in
    shares_fit_lem c.args.rows.now c.requires.ranked (sides (goal.at.crossed_by-c-requires c).Start) c.loop-q.invariant meet c.min-q.ensures

pub head_past-buy-requires : goal.head_past-buy-requires
head_past-buy-requires c =
    let meet = sym c.crossing.ensures ∙ c.loop-q-test.true in
    record { end_in_bounds = (sides (goal.at.head_past-buy-requires c).Start).short_buys; at_lt_end = buy_inside c.args.rows.now c.requires.ranked (sides (goal.at.head_past-buy-requires c).Start) c.loop-q.invariant meet c.min-q.ensures }

pub head_past-sell-requires : goal.head_past-sell-requires
head_past-sell-requires c =
    let meet = sym c.crossing.ensures ∙ c.loop-q-test.true in
    record { end_in_bounds = (sides (goal.at.head_past-sell-requires c).Start).short_sells; at_lt_end = sell_inside c.args.rows.now c.requires.ranked (sides (goal.at.head_past-sell-requires c).Start) c.loop-q.invariant meet c.min-q.ensures }

pub loop-q-smaller : goal.loop-q-smaller
loop-q-smaller c =
    let meet = sym c.crossing.ensures ∙ c.loop-q-test.true in
    walk_less c.args.rows.now c.requires.ranked (sides (goal.at.loop-q-smaller c).Start) c.loop-q.invariant meet c.min-q.ensures
    c.head_past-buy.ensures

pub loop-q-preserved : goal.loop-q-preserved
loop-q-preserved c =
    let meet = sym c.crossing.ensures ∙ c.loop-q-test.true in
    walked_next c.args.rows.now c.requires.ranked (sides (goal.at.loop-q-preserved c).Start) c.loop-q.invariant meet c.min-q.ensures
    c.crossed_by-c.ensures c.head_past-buy.ensures c.head_past-sell.ensures

pub returns : goal.returns
returns c =
    walked_end c.args.rows.now c.requires.ranked (sides (goal.at.returns c).Start) c.loop-q.invariant (sym c.crossing.ensures ∙ c.loop-q-test.false)
