-- What a run of trades adds to the day's figures, and what is published of them.
use Rattle.std.specs.Prelude.{◌+◌, ◌^◌, ◌≤◌, ◌<◌, List}
use Rattle.model.specs.declared.Trade.{Trade}
use Rattle.model.specs.declared.Day.{Day}
use Rattle.model.specs.Matching.{filled}
use Rattle.model.specs.Figures as figures
use Rattle.figures.specs.declared.Totals.{Totals}

unfoldable pub totals : List Trade → Totals
totals ts = record { shares = filled ts; money = figures.money ts }

unfoldable pub published : Day → Totals
published d = record { shares = figures.published_shares d; money = figures.published_turnover d }

-- the sums that are published from 15:30 on are numbers of 64 bits
pub record Publishable (d : Day) : Type 0 where
  pub shares : 55_800 ≤ d.time → d.shares + d.fixed.shares + d.blocks.shares < 2 ^ 64
  pub money : 55_800 ≤ d.time → d.turnover + d.fixed.money < 2 ^ 64
