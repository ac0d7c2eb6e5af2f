-- `orders::entering::enter` meets its contract: its trades are written and read back, the book is settled, what is left joins it or is
-- withdrawn. Assumes nothing.
use native.Mathlib.Omega.{arith}
use Prim.Native.Nat.{◌+◌, ◌<◌, ◌^◌}
use mathlib.Core.Path.{◌≡◌}
use Rattle.model.specs.Book.{best, other}
use Rattle.matching.specs.Entering.{rest_at}
use Rattle.orders.proofs.Entered.{rest_found, filled_fits, count_fits, room_for, then_publishable, then_ranked, then_joins, left_ranked, entered_is}
use Rattle.orders.proofs.entering.enter.Goals as goal
use Rattle.orders.proofs.entering.enter.Goals.{After-enter_trades-s, After-price_of_rest-p}

-- the next number is one
numbers : (e : After-enter_trades-s) → e.args.d.issued + 1 < 2 ^ 64
numbers e = omega (arith, e.requires.taken.number)

rest :
    (p : After-price_of_rest-p) →
    p.price_of_rest-p.result
    ≡ rest_at p.args.a (best p.args.a.side p.args.rows.now) (best (other p.args.a.side) p.args.rows.now) p.enter_trades-s.result.filled p.enter_trades-s.result.last
rest p = rest_found p.args.a p.args.rows.now _ _ p.requires.own_value p.requires.other_value p.price_of_rest-p.ensures

pub enter_trades-s-requires : goal.enter_trades-s-requires
enter_trades-s-requires c =
    record { ranked = c.requires.taken.ready.ranked; phase_value = c.requires.phase_value; own_value = c.requires.own_value; other_value = c.requires.other_value; issued_bound = c.requires.taken.ready.sound.issued }

pub overflow_sub-q : goal.overflow_sub-q
overflow_sub-q c =
    let a = c.args in
    filled_fits a.d a.a a.rows.now a.trades.now c.requires.taken.fits c.enter_trades-s.ensures.value c.enter_trades-s.ensures.trades_after c.requires.taken

pub settle_entry-requires : goal.settle_entry-requires
settle_entry-requires c = c.requires.taken.ready.ranked

pub overflow_add-d : goal.overflow_add-d
overflow_add-d c = record { fits = numbers (goal.at.overflow_add-d c).After-enter_trades-s }

pub join_rest-requires : goal.join_rest-requires
join_rest-requires c =
    let a = c.args in record { ranked = then_ranked a.d a.a a.rows.now a.trades.now c.requires.taken.fits c.enter_trades-s.ensures.value c.enter_trades-s.ensures.trades_after c.requires.taken c.settle_entry.new.rows c.settle_entry.ensures.rows_after_2; joins = then_joins a.d a.a a.rows.now a.trades.now c.requires.taken.fits c.enter_trades-s.ensures.value c.enter_trades-s.ensures.trades_after c.requires.taken c.settle_entry.new.rows c.settle_entry.ensures.rows_after_2 (rest (goal.at.join_rest-requires c).After-price_of_rest-p) }

pub day_after-counted-requires : goal.day_after-counted-requires
day_after-counted-requires c =
    let a = c.args in record { n_in_bounds = count_fits a.d a.a a.rows.now a.trades.now c.requires.taken.fits c.enter_trades-s.ensures.value c.enter_trades-s.ensures.trades_after c.requires.taken c.enter_trades-s.auto.trades; room_for = room_for a.d a.a a.rows.now a.trades.now c.requires.taken.fits c.enter_trades-s.ensures.value c.enter_trades-s.ensures.trades_after c.requires.taken }

pub update_screen-next-requires : goal.update_screen-next-requires
update_screen-next-requires c =
    let a = c.args in record {
      ranked = left_ranked a.d a.a a.rows.now a.trades.now c.requires.taken.fits c.enter_trades-s.ensures.value c.enter_trades-s.ensures.trades_after c.requires.taken
          c.settle_entry.new.rows c.settle_entry.ensures.rows_after_2
          c.join_rest.new.rows
          (rest (goal.at.update_screen-next-requires c).After-price_of_rest-p)
          c.join_rest.ensures;
      n_in_bounds = count_fits a.d a.a a.rows.now a.trades.now c.requires.taken.fits c.enter_trades-s.ensures.value c.enter_trades-s.ensures.trades_after c.requires.taken c.enter_trades-s.auto.trades;
      publishable = then_publishable a.d a.a a.rows.now a.trades.now c.requires.taken.fits c.enter_trades-s.ensures.value c.enter_trades-s.ensures.trades_after c.requires.taken c.day_after-counted.ensures;
    }

pub overflow_add-entry : goal.overflow_add-entry
overflow_add-entry c = record { fits = numbers (goal.at.overflow_add-entry c).After-enter_trades-s }

pub returns : goal.returns
returns c =
    let a = c.args in
    entered_is a.d a.a a.rows.now a.trades.now c.requires.taken.fits c.enter_trades-s.ensures.value c.enter_trades-s.ensures.trades_after c.requires.taken
    c.settle_entry.new.rows c.settle_entry.ensures.rows_after_2
    c.join_rest.new.rows
    (rest (goal.at.returns c).After-price_of_rest-p)
    c.join_rest.ensures
    c.remainder_of.ensures
    c.day_after-counted.ensures
    c.update_screen-next.ensures
