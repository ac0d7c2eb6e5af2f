-- The whole screen compared: the definition's tests in the order in which they are made. Assumes nothing.
use mathlib.Core.Path.{◌≡◌, refl}
use mathlib.Core.Bool.{Bool, true, false, ◌&&◌, and-false}
use mathlib.Core.List.{List}
use lib.Dec.{eqb}
use borrow.Author.Tests.{eq-eqb}
use Rattle.model.specs.declared.Order.{Order}
use Rattle.model.specs.declared.Day.{Day}
use Rattle.model.specs.Figures.{published_shares, published_turnover}
use Rattle.model.specs.Screen.{levels_of, shown_price, screen_of, same_levels, same_surplus, same_screen}
use Rattle.model.specs.Sound.{encloses, screen_fits}
use Rattle.auction.specs.declared.Fixing.{Fixing}
use Rattle.auction.specs.Fixings.{fixing_at}
use Rattle.screens.specs.Parts.{figures_fit, same_fixing}

-- tests in another order
reordered :
    (last shares turnover buys sells price volume surplus within : Bool)
    → (last && true && true && shares && turnover && buys && sells && price && volume && surplus && within)
    ≡ (last && shares && turnover && within && buys && sells && (price && volume && surplus))
reordered false c t b s p v z w = refl
reordered true false t b s p v z w = refl
reordered true true false b s p v z w = refl
reordered true true true b s p v z false = and-false (b && s && p && v && z)
reordered true true true false s p v z true = refl
reordered true true true true false p v z true = refl
reordered true true true true true false v z true = refl
reordered true true true true true true false z true = refl
reordered true true true true true true true true true = refl
reordered true true true true true true true false true = refl

module _ (d : Day) (book : List Order) where
  -- high and low are compared with themselves
  pub fits_groups :
      screen_fits d book
      ≡ (figures_fit d
      && encloses d
      && same_levels d.screen.buys (levels_of 0 book)
      && same_levels d.screen.sells (levels_of 1 book)
      && same_fixing d.screen (fixing_at (shown_price d book) book))
  unfolding screen_fits same_screen screen_of figures_fit same_fixing fixing_at
  fits_groups =
      rw (eq-eqb d.screen.high d.screen.high refl, eq-eqb d.screen.low d.screen.low refl)
      (reordered (eqb d.screen.last d.last) (eqb d.screen.shares (published_shares d)) (eqb d.screen.turnover (published_turnover d))
      (same_levels d.screen.buys (levels_of 0 book)) (same_levels d.screen.sells (levels_of 1 book))
      (eqb d.screen.price f.price) (eqb d.screen.volume f.volume) (same_surplus d.screen.surplus f.surplus) (encloses d))
    where
      f : Fixing
      f = fixing_at (shown_price d book) book
