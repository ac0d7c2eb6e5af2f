-- The parts of a screen that are compared together.
use Rattle.std.specs.Prelude.{Bool, ◌&&◌, eqb}
use Rattle.model.specs.declared.Day.{Day}
use Rattle.model.specs.declared.Screen.{Screen}
use Rattle.model.specs.Figures.{published_shares, published_turnover}
use Rattle.model.specs.Screen.{same_surplus}
use Rattle.auction.specs.declared.Fixing.{Fixing}

-- the day's figures that its screen shows
unfoldable pub figures_fit : Day → Bool
figures_fit d =
    eqb d.screen.last d.last && eqb d.screen.shares (published_shares d) && eqb d.screen.turnover (published_turnover d)

-- the auction's figures
unfoldable pub same_fixing : Screen → Fixing → Bool
same_fixing s f = eqb s.price f.price && eqb s.volume f.volume && same_surplus s.surplus f.surplus
