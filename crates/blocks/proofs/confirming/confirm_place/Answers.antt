-- No buyer, or no partner, and nothing is added; else one trade is.
use Rattle.partners.specs.Partners.{confirmed_with}
use Rattle.blocks.proofs.Dealing.{free_adds_none, seller_adds_none, alone_adds_none, buyer_adds}
use Rattle.blocks.proofs.confirming.confirm_place.Goals as goal
use Rattle.blocks.proofs.confirming.confirm_place.Goals.{then-x-eq0-via-then-x-eq0, then-x-eq0-via-else-x-eq0+then-x-ne0, then-x-eq0-via-else-x-eq0+else-x-ne0+then-partner-eq0}

pub returns-then-x-eq0 : goal.returns-then-x-eq0
returns-then-x-eq0 c =
    elim c.then-x-eq0.branch [
      | then-x-eq0-via-then-x-eq0 w ↦ free_adds_none _ _ _ _ w.if-x-eq0.true
      | then-x-eq0-via-else-x-eq0+then-x-ne0 w ↦ seller_adds_none _ _ _ _ w.if-x-ne0.true
      | then-x-eq0-via-else-x-eq0+else-x-ne0+then-partner-eq0 w ↦ alone_adds_none _ _ _ _ w.if-partner-eq0.true
    ]

pub returns : goal.returns
unfolding confirmed_with
returns c =
    buyer_adds _ _ _ _ c.if-x-eq0.false c.if-x-ne0.false c.if-partner-eq0.false c.put_trade.ensures
