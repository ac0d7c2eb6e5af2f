-- The volume comes off the front of either side.
use Rattle.pairing.proofs.Fronts.{auction_settles}
use Rattle.pairing.proofs.settling.settle_auction.Goals as goal

pub returns : goal.returns
returns c =
    let e = c.off_both.ensures in
    record { rows_after = e; by_index = auction_settles _ c.args.shares c.args.rows.now c.requires.stands e }
