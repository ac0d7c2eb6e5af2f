-- A sound fixed-price book as a record of plain facts: all that may be used of it once the test has passed.
use Rattle.std.specs.Prelude.{◌+◌, ◌*◌, ◌≤◌, ◌<◌, ◌≡◌, ◌⊎◌, true, false, List, []}
use Rattle.model.specs.declared.Order.{Order}
use Rattle.model.specs.declared.Day.{Day}
use Rattle.model.specs.Lists.{keep, total}
use Rattle.model.specs.Book.{stands_on}
use Rattle.model.specs.Arrival.{in_arrival}
use Rattle.model.specs.Figures.{close_price}
use Rattle.model.specs.FixedBook.{is_void}
use Rattle.model.specs.Words.{Each}
use Rattle.soundness.specs.SoundDay.{Place, Empty}

-- the day as the fixed-price book reads it: the numbers issued are its own
abbrev pub of_fixed : Day → Day
of_fixed d =
    record {
      close = d.close;
      limited = d.limited;
      time = d.time;
      issued = d.fixed.issued;
      shares = d.shares;
      turnover = d.turnover;
      first = d.first;
      last = d.last;
      screen = d.screen;
      halt = d.halt;
      used30 = d.used30;
      used60 = d.used60;
      fixed = d.fixed;
      blocks = d.blocks;
    }

-- its figures among the day's
pub record FixedFigures (d : Day) : Type 0 where
  pub issued : d.fixed.issued ≤ 999_999
  pub shares : 2 * d.fixed.shares ≤ 1_000_000 * d.fixed.issued
  pub money : d.fixed.money ≡ close_price d * d.fixed.shares
  pub none_yet : d.time < 54_300 → d.fixed.shares ≡ 0

pub record FixedDay (d : Day) (book : List Order) : Type 0 where
  pub places : Each (Place (of_fixed d)) book
  -- by time alone, free places last
  pub line : in_arrival (λ o. o.number) book ≡ true
  pub early : d.time < 33_300 → Empty book
  pub ended : 55_800 ≤ d.time → Empty book
  -- from 15:05 on one side has nobody, and nobody has a limit on the wrong side of the close
  pub one_sided : 54_300 ≤ d.time → (keep (stands_on 0) book ≡ []) ⊎ (keep (stands_on 1) book ≡ [])
  pub none_void : 54_300 ≤ d.time → Each (λ o. is_void (close_price d) o ≡ false) book
  -- each share traded was bought and sold, out of at most 1,000,000 for each number
  pub sums : 2 * d.fixed.shares + total (λ (o : Order). o.left) book ≤ 1_000_000 * d.fixed.issued
