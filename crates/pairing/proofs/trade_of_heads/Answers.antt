-- The smaller of three is what the two shares have in common; it is no more than either order has.
use Rattle.pairing.proofs.Dealing.{step_dealt, step_leaves}
use Rattle.pairing.proofs.trade_of_heads.Goals as goal

pub returns : goal.returns
returns c =
    let a = c.args in record { value = step_dealt a.buy a.sell a.left a.price c.min-granted.ensures c.min-quantity.ensures; leaves_both = step_leaves a.buy a.sell a.left a.price c.min-granted.ensures c.min-quantity.ensures }
