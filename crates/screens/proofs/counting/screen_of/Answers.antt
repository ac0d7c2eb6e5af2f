-- Put together of its parts.
use Rattle.screens.proofs.Counted.{screen_is}
use Rattle.screens.proofs.counting.screen_of.Goals as goal

pub returns : goal.returns
returns c =
    screen_is c.args.day _ c.args.high c.args.low c.levels_of-buys.ensures c.levels_of-sells.ensures
    c.shown_of-shown.ensures c.published-totals.ensures (record { sfits = c.struct_told-1.given.1.1.0.1 })
