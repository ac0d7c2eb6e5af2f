-- The fixed-price book as its functions need it, and what a call may use of it once the test of 15 has passed.
use Rattle.std.specs.Prelude.{◌+◌, ◌*◌, ◌≤◌, ◌<◌, ◌≡◌, ◌⊎◌, true, false, List, length}
use Rattle.model.specs.declared.Order.{Order}
use Rattle.model.specs.declared.Day.{Day}
use Rattle.model.specs.Lists.{total}
use Rattle.model.specs.Book.{stands_on}
use Rattle.model.specs.Arrival.{in_arrival}
use Rattle.model.specs.Figures.{close_price}
use Rattle.model.specs.FixedBook.{is_void}
use Rattle.model.specs.Refusals.{unsound_fixed}
use Rattle.model.specs.Words.{Each, Price}
use Rattle.book.specs.Standing.{Fair}
use Rattle.soundness.specs.SoundDay.{Place, Empty}

-- what the walks along the line need
pub record Lined (book : List Order) : Type 0 where
  pub fair : Each Fair book
  pub arrived : in_arrival (λ (o : Order). o.number) book ≡ true
  pub few : length book ≤ 4_096

-- the day with the numbers of this book as those issued: its orders are those of a day like that
abbrev pub as_fixed : Day → Day
as_fixed d =
    record {
      close = d.close;
      limited = d.limited;
      time = d.time;
      issued = d.fixed.issued;
      shares = d.shares;
      turnover = d.turnover;
      first = d.first;
      last = d.last;
      screen = d.screen;
      halt = d.halt;
      used30 = d.used30;
      used60 = d.used60;
      fixed = d.fixed;
      blocks = d.blocks;
    }

-- the clauses that read the list
pub record FixedLine (d : Day) (book : List Order) : Type 0 where
  pub places : Each (Place (as_fixed d)) book
  pub arrived : in_arrival (λ (o : Order). o.number) book ≡ true
  pub early : d.time < 33_300 → Empty book
  pub late : 55_800 ≤ d.time → Empty book
  pub one_sided : 54_300 ≤ d.time → Each (λ o. stands_on 0 o ≡ false) book ⊎ Each (λ o. stands_on 1 o ≡ false) book
  pub none_void : 54_300 ≤ d.time → Each (λ o. is_void (close_price d) o ≡ false) book
  pub sums : 2 * d.fixed.shares + total (λ (o : Order). o.left) book ≤ 1_000_000 * d.fixed.issued

-- and the clauses that read the day alone
pub record FixedDay (d : Day) : Type 0 where
  pub issued : d.fixed.issued ≤ 999_999
  pub shares : 2 * d.fixed.shares ≤ 1_000_000 * d.fixed.issued
  pub money : d.fixed.money ≡ close_price d * d.fixed.shares
  pub none_yet : d.time < 54_300 → d.fixed.shares ≡ 0

pub record FixedReady (d : Day) (book : List Order) : Type 0 where
  pub sound : unsound_fixed d book ≡ false
  pub close : Price d.close
  pub limited : d.limited ≤ 1
  -- the day's close, at which this book matches
  pub price : close_price d ≤ 999_999
  pub day : FixedDay d
  pub line : FixedLine d book
  pub lined : Lined book
  pub some : 1 ≤ length book
