-- `judging::calls::set_up` meets its contract: the piles, then the grants of the volume at the price. Assumes nothing.
use native.Mathlib.Omega.{arith}
use Rattle.judging.proofs.Granting.{granted_at}
use Rattle.judging.proofs.calls.set_up.Goals as goal

pub pile_orders-requires : goal.pile_orders-requires
pile_orders-requires c =
    record { rows_len_bound = omega (arith, c.requires.ranked.few); tops_value = c.requires.tops_value; rows_in_bounds = c.requires.rows_in_bounds }

pub returns : goal.returns
returns c = record { piled = c.pile_orders.ensures; slate_after = granted_at _ c.args.rows.now c.volume_at.ensures c.grant_rows.ensures }
