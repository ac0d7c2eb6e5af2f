-- `partners::pair_up` meets its contract: head by head the trades so far and those of the rest stay the whole. Assumes nothing.
use Prim.Native.Nat.{◌<◌}
use lib.ListN.{length, get_or}
use Rattle.partners.proofs.Meeting.{met_buyers, met_sellers, met_early_buyer, met_early_seller, met_two, walk_start, walk_long, walk_length, walk_places}
use borrow.Author.Rules.{rules}
use Rattle.partners.proofs.pair_up.Goals as goal
use Rattle.partners.proofs.pair_up.Goals.{Then-j-sellers}

pub loop-i-init : goal.loop-i-init
loop-i-init c = walk_start c.args.rows.now _ _ c.requires.partner_value

pub shape_of-partner-else-j-sellers : goal.shape_of-partner-else-j-sellers
shape_of-partner-else-j-sellers c =
    walk_length c.args.rows.now _ _ _ _ _ c.loop-i.invariant c.requires.partner_value

pub returns-else-j-sellers : goal.returns-else-j-sellers
returns-else-j-sellers c =
    met_sellers _ c.requires.declared _ _ c.requires.both_sorted _ _ _ c.loop-i.invariant c.if-j-sellers.false

-- both heads are places of the list
both_within :
    (c : Then-j-sellers)
    →
    let a = c.args in
    (get_or a.buyers.now c.loop-i.i 0 < length a.rows.now) × (get_or a.sellers.now c.loop-i.j 0 < length a.rows.now)
both_within c =
    walk_places c.args.rows.now _ _ _ _ _ c.loop-i.invariant c.requires.declared c.requires.both_sorted c.loop-i-test.true c.if-j-sellers.true

pub before-requires : goal.before-requires
before-requires c =
    let w = both_within (goal.at.before-requires c).Then-j-sellers in
    search rules

pub loop-i-preserved-then-before : goal.loop-i-preserved-then-before
loop-i-preserved-then-before c =
    met_early_buyer _ c.requires.declared _ _ c.requires.both_sorted _ _ _ c.loop-i.invariant c.loop-i-test.true c.if-j-sellers.true c.before-in-loop-i.ensures c.if-before.true

pub before-requires-else-before : goal.before-requires-else-before
before-requires-else-before c =
    let w = both_within (goal.at.before-requires-else-before c).Then-j-sellers in
    search rules

pub loop-i-preserved-then-before-2 : goal.loop-i-preserved-then-before-2
loop-i-preserved-then-before-2 c =
    met_early_seller _ c.requires.declared _ _ c.requires.both_sorted _ _ _ c.loop-i.invariant c.loop-i-test.true c.if-j-sellers.true c.before-else-before.ensures c.if-before-2.true

pub join-requires : goal.join-requires
join-requires c =
    let w = both_within (goal.at.join-requires c).Then-j-sellers in
    record { p_in_bounds = w.0; q_in_bounds = w.1; partner_len = walk_long c.args.rows.now _ _ _ _ _ c.loop-i.invariant }

pub loop-i-preserved : goal.loop-i-preserved
loop-i-preserved c =
    met_two _ c.requires.declared _ _ c.requires.both_sorted _ _ _ c.loop-i.invariant c.loop-i-test.true c.if-j-sellers.true
    c.before-in-loop-i.ensures c.if-before.false c.before-else-before.ensures c.if-before-2.false c.join.ensures

pub returns-after-loop-i : goal.returns-after-loop-i
returns-after-loop-i c =
    met_buyers _ c.requires.declared _ _ c.requires.both_sorted _ _ _ c.loop-i.invariant c.loop-i-test.false
