-- The day with the counted screen, and high and low with the trades.
use Rattle.screens.proofs.Counted.{update_is}
use Rattle.screens.proofs.update_screen.Goals as goal

pub returns : goal.returns
returns c =
    update_is c.args.day _ _ c.range_with-range.ensures c.screen_of-screen.ensures
