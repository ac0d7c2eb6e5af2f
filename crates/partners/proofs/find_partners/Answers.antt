-- `partners::find_partners` meets its contract: each room has a place for the longest list. Assumes nothing.
use Prim.Native.Nat.{◌≤◌}
use native.Mathlib.Omega.{arith}
use lib.ListN.{length}
use Rattle.partners.proofs.find_partners.Goals as goal

pub find_with-requires : goal.find_with-requires
find_with-requires c =
    let few : length c.args.rows.now ≤ 4_096 = omega (arith, c.requires.declared.few) in
    record { declared = c.requires.declared; partner_len = c.requires.partner_len; rows_in_buyers = omega (arith, few); rows_in_sellers = omega (arith, few); buyers_in_bounds = omega arith; sellers_in_bounds = omega arith }
