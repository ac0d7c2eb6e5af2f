-- `moves::moving::pass_next` meets its contract: what is due at the stop, with its trades after those so far. Assumes nothing.
use native.Mathlib.Omega.{arith}
use Rattle.moves.proofs.AuctionHeld.{next_underway, next_fits, sum_fits, then_held}
use Rattle.moves.proofs.moving.pass_next.Goals as goal

pub pass_stop-held-requires : goal.pass_stop-held-requires
pass_stop-held-requires c =
    let a = c.args in
    let u = c.requires.underway in
    let e = c.requires.second_value in record { underway = next_underway a.p a.second a.rows.now a.trades.now c.requires.made_in_bounds u; rows_in_bounds = next_fits a.p a.second a.rows.now a.trades.now c.requires.made_in_bounds u e c.requires.trades_in_bounds; second_bound = c.requires.second_bound; second_value = e }

pub overflow_add-result : goal.overflow_add-result
overflow_add-result c =
    let a = c.args in
    record {
      fits =
          omega (
            arith,
            sum_fits a.p a.second a.rows.now a.trades.now c.requires.made_in_bounds c.pass_stop-held.auto.trades c.pass_stop-held.ensures,
            c.well_formed,
          );
    }

pub returns : goal.returns
returns c =
    let a = c.args in
    then_held a.p a.second a.rows.now a.trades.now c.requires.made_in_bounds c.pass_stop-held.auto.trades c.pass_stop-held.ensures
