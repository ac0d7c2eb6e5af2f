-- `judging::claims::take_claim` meets its contract: refused at the first test that fails, or taken off both. Assumes nothing.
use mathlib.Core.Path.{◌≡◌}
use lib.ListN.{length}
use Rattle.lookup.proofs.Seeking.{place_within}
use Rattle.judging.proofs.Settling.{no_shares, no_buyer, no_seller, buyer_fills, seller_fills, came_off}
use Rattle.judging.proofs.claims.take_claim.Goals as goal
use Rattle.judging.proofs.claims.take_claim.Goals.{Start}

-- a number of the slate for each place
long : (c : Start) → length c.args.slate.now ≡ length c.args.rows.now
long c = c.requires.slate_len

pub returns-then-c-eq0 : goal.returns-then-c-eq0
returns-then-c-eq0 c =
    no_shares c.args.rows.now c.requires.standing c.args.c c.args.slate.now (long (goal.at.returns-then-c-eq0 c).Start) c.if-c-eq0.true

pub may_fill-requires : goal.may_fill-requires
may_fill-requires c =
    record { at_in_bounds = place_within _ c.args.rows.now c.place_by-buyer.ensures; slate_len = c.requires.slate_len }

pub returns-then-not-may_fill : goal.returns-then-not-may_fill
returns-then-not-may_fill c =
    no_buyer c.args.rows.now c.requires.standing c.args.c c.args.slate.now (long (goal.at.returns-then-not-may_fill c).Start) c.place_by-buyer.ensures c.may_fill.ensures c.if-not-may_fill.true-raw

pub may_fill-requires-2 : goal.may_fill-requires-2
may_fill-requires-2 c =
    record { at_in_bounds = place_within _ c.args.rows.now c.place_by-seller.ensures; slate_len = c.requires.slate_len }

pub returns-then-not-may_fill-2 : goal.returns-then-not-may_fill-2
returns-then-not-may_fill-2 c =
    no_seller c.args.rows.now c.requires.standing c.args.c c.args.slate.now (long (goal.at.returns-then-not-may_fill-2 c).Start) c.place_by-buyer.ensures c.place_by-seller.ensures c.may_fill-2.ensures c.if-not-may_fill-2.true-raw

pub take_off-requires : goal.take_off-requires
take_off-requires c =
    let fit =
    buyer_fills c.args.rows.now c.requires.standing c.args.c c.args.slate.now (long (goal.at.take_off-requires c).Start) c.place_by-buyer.ensures c.place_by-seller.ensures
    c.may_fill.ensures c.if-not-may_fill.false-raw c.may_fill-2.ensures c.if-not-may_fill-2.false-raw in
    record { at_nonzero = fit.0; at_in_bounds = fit.1.0; shares_bound = fit.1.1 }

pub take_off-requires-2 : goal.take_off-requires-2
take_off-requires-2 c =
    let fit =
    seller_fills c.args.rows.now c.requires.standing c.args.c c.args.slate.now (long (goal.at.take_off-requires-2 c).Start) c.place_by-buyer.ensures c.place_by-seller.ensures
    c.may_fill.ensures c.if-not-may_fill.false-raw c.may_fill-2.ensures c.if-not-may_fill-2.false-raw c.if-c-eq0.false c.take_off.ensures in
    record { at_nonzero = fit.0; at_in_bounds = fit.1.0; shares_bound = fit.1.1 }

pub returns : goal.returns
returns c =
    came_off c.args.rows.now c.requires.standing c.args.c c.args.slate.now (long (goal.at.returns c).Start) c.place_by-buyer.ensures c.place_by-seller.ensures
    c.may_fill.ensures c.if-not-may_fill.false-raw c.may_fill-2.ensures c.if-not-may_fill-2.false-raw c.if-c-eq0.false c.take_off.ensures c.take_off-2.ensures
