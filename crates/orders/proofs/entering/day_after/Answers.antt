-- `orders::entering::day_after` meets its contract: one number more, the trades among the figures, then what they fire. Assumes nothing.
use lib.ListN.{take}
use Rattle.orders.proofs.Counted.{shares_room, money_room, then_priced, then_is}
use Rattle.orders.proofs.entering.day_after.Goals as goal

pub tally_trades-tallied-requires : goal.tally_trades-tallied-requires
tally_trades-tallied-requires c =
    let a = c.args in
    let i = c.issued_one.ensures in record { n_in_bounds = c.requires.n_in_bounds; trades_bound = shares_room a.d (take a.n a.trades.now) c.requires.room_for i; trades_bound_2 = money_room a.d (take a.n a.trades.now) c.requires.room_for i }

pub fire-requires : goal.fire-requires
fire-requires c =
    let a = c.args in record { second_bound = c.requires.room_for.time; n_in_bounds = c.requires.n_in_bounds; priced = then_priced a.d (take a.n a.trades.now) c.requires.room_for c.issued_one.ensures c.tally_trades-tallied.ensures }

pub returns : goal.returns
returns c =
    let a = c.args in
    then_is a.d (take a.n a.trades.now) c.requires.room_for c.issued_one.ensures c.tally_trades-tallied.ensures c.fire.ensures
