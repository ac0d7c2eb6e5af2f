-- The screen put together of its parts, and the day with it. Assumes nothing.
use Prim.Native.Nat.{ℕ}
use mathlib.Core.Path.{◌≡◌, sym, ap, ◌∙◌}
use mathlib.Core.Bool.{Bool, true, false, not}
use mathlib.Core.List.{List, [], ◌∷◌}
use lib.ListN.{get_or}
use lib.IntN.{pos}
use borrow.Author.Tests.{not-true, not-false}
use mir.Syntax.{w64}
use mir.Val.{SFits, to_z, of_z}
use mir.ValLaws.{to_z-of_z}
use Rattle.model.specs.declared.Order.{Order}
use Rattle.model.specs.declared.Trade.{Trade}
use Rattle.model.specs.declared.Levels.{Levels}
use Rattle.model.specs.declared.Screen.{Screen}
use Rattle.model.specs.declared.Day.{Day}
use Rattle.model.specs.Lists.{among}
use Rattle.model.specs.Figures.{reference}
use Rattle.model.specs.Halts.{phase_now}
use Rattle.model.specs.Auction.{left_by, auction_price}
use Rattle.model.specs.Screen.{levels_of, shown_price, screen_of, update}
use Rattle.figures.specs.declared.Totals.{Totals}
use Rattle.figures.specs.Figures.{published}
use Rattle.auction.specs.declared.Fixing.{Fixing}
use Rattle.auction.specs.Fixings.{fixing_at}
use Rattle.screens.specs.declared.Range.{Range}
use Rattle.screens.specs.Ranges.{range_with}

-- ---- the auction's figures

module _ (d : Day) (book : List Order) {phase : ℕ} {b : Bool} (e : phase ≡ phase_now d) (f : b ≡ among (1 ∷ 2 ∷ 6 ∷ []) phase) where
  tested : among (1 ∷ 2 ∷ 6 ∷ []) (phase_now d) ≡ b
  tested = ap (among (1 ∷ 2 ∷ 6 ∷ [])) (sym e) ∙ sym f

  pub shown_none : not b ≡ true → record { price = 0; volume = 0; surplus = pos 0 } ≡ fixing_at (shown_price d book) book
  unfolding fixing_at shown_price
  shown_none n = rw (tested, not-true b n)

  pub shown_some :
      {r : Fixing} {ref : ℕ}
      → not b ≡ false
      → ref ≡ reference d
      → r ≡ fixing_at (get_or (left_by book ref) 0 0) book
      → r ≡ fixing_at (shown_price d book) book
  unfolding shown_price auction_price
  shown_some n g h = rw (tested, not-false b n, ← g) h

-- ---- the screen

pub screen_is :
    (d : Day) (book : List Order) (high low : ℕ) {buys sells : Levels} {shown : Fixing} {totals : Totals}
    → buys ≡ levels_of 0 book
    → sells ≡ levels_of 1 book
    → shown ≡ fixing_at (shown_price d book) book
    → totals ≡ published d
    → SFits w64 shown.surplus
    → record {
      last = d.last;
      high = high;
      low = low;
      shares = totals.shares;
      turnover = totals.money;
      buys = buys;
      sells = sells;
      price = shown.price;
      volume = shown.volume;
      surplus = to_z w64 (of_z w64 shown.surplus);
    }
    ≡ screen_of d book high low
unfolding screen_of fixing_at published
screen_is d book high low {shown = shown} e f g p h = rw (to_z-of_z w64 shown.surplus h, e, f, g, p)

pub update_is :
    (d : Day) (ts : List Trade) (book : List Order) {range : Range} {screen : Screen}
    → range ≡ range_with ts d.screen
    → screen ≡ screen_of d book range.high range.low
    → record {
      close = d.close;
      limited = d.limited;
      time = d.time;
      issued = d.issued;
      shares = d.shares;
      turnover = d.turnover;
      first = d.first;
      last = d.last;
      screen = screen;
      halt = d.halt;
      used30 = d.used30;
      used60 = d.used60;
      fixed = d.fixed;
      blocks = d.blocks;
    }
    ≡ update ts book d
unfolding update range_with
update_is d ts book e f = rw (f, e)
