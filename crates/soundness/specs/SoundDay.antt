-- A sound day as a record of plain facts, its halt as another, and its figures of the other lists as a third: all that a call may use
-- once the test has passed.
use Rattle.std.specs.Prelude.{ℕ, ◌+◌, ◌*◌, ◌≤◌, ◌<◌, ◌≡◌, ◌⊎◌, Bool, true, ◌&&◌, List}
use Rattle.model.specs.declared.Order.{Order}
use Rattle.model.specs.declared.Day.{Day}
use Rattle.model.specs.Lists.{total}
use Rattle.model.specs.Book.{free, best, in_order}
use Rattle.model.specs.Figures.{close_price}
use Rattle.model.specs.Sound.{is_led_to, halt_fits, sound_anywhere}
use Rattle.model.specs.Words.{Each, Price, Apart}

pub record InBand (close p : ℕ) : Type 0 where
  pub low : 70 * close ≤ 100 * p
  pub high : 100 * p ≤ 130 * close

-- an order that rests: its number is among those issued, and on a limited day its price is in the band
pub record Rests (d : Day) (o : Order) : Type 0 where
  pub side : o.side ≤ 1
  pub account : o.account ≡ 0 → ⊥
  pub some : 1 ≤ o.left
  pub left : o.left ≤ 1_000_000
  pub price : Price o.price
  pub band : (d.limited ≡ 0 → ⊥) → InBand d.close o.price
  pub numbered : 1 ≤ o.number
  pub issued : o.number ≤ d.issued

abbrev pub Place : Day → Order → Type 0
Place d o = (o ≡ free) ⊎ Rests d o

abbrev pub Empty : List Order → Type 0
Empty book = Each (λ o. o ≡ free) book

pub record SoundDay (d : Day) (book : List Order) : Type 0 where
  pub close : Price d.close
  pub limited : d.limited ≤ 1
  pub time : d.time ≤ 86_399
  pub issued : d.issued ≤ 999_999
  pub places : Each (Place d) book
  -- one number, one order
  pub apart : Apart book
  pub early : d.time < 33_300 → Empty book
  pub late : 54_000 ≤ d.time → Empty book
  -- where both sides have an order, the best buy is below the best sell, unless a halt runs
  pub uncrossed :
      33_900 ≤ d.time
      → d.time ≤ 53_819
      → d.halt ≡ 0
      → (best 0 book ≡ 0 → ⊥)
      → (best 1 book ≡ 0 → ⊥)
      → best 0 book < best 1 book
  pub shares : 2 * d.shares + total (λ (o : Order). o.left) book ≤ 1_000_000 * d.issued
  pub untraded : d.shares ≡ 0 → (d.first ≡ 0) × (d.last ≡ 0)
  pub traded : (d.shares ≡ 0 → ⊥) → Price d.first × Price d.last
  pub least : d.shares ≤ d.turnover
  pub most : d.turnover ≤ 999_999 * d.shares

-- an end lies ahead, and a continuous second so far leads to it; 60% is not used without 30%, no end is there with none used; and all of
-- this on an unlimited day that has traded
pub record HaltDay (d : Day) : Type 0 where
  pub thirty : d.used30 ≤ 1
  pub sixty : d.used60 ≤ 1
  pub ahead : (d.halt ≡ 0 → ⊥) → d.time < d.halt
  pub led : (d.halt ≡ 0 → ⊥) → is_led_to d.halt d.time ≡ true
  pub thirty_first : d.used60 ≡ 1 → d.used30 ≡ 1
  pub uses : (d.halt ≡ 0 → ⊥) → d.used30 ≡ 1
  pub unlimited : d.used30 ≡ 1 → (d.limited ≡ 1 → ⊥) × (d.shares ≡ 0 → ⊥)

-- the day's figures of the fixed-price book and of block trades
pub record EveningDay (d : Day) : Type 0 where
  pub fixed_issued : d.fixed.issued ≤ 999_999
  -- each share traded was bought and sold, out of at most 1,000,000 for each number
  pub fixed_shares : 2 * d.fixed.shares ≤ 1_000_000 * d.fixed.issued
  pub fixed_money : d.fixed.money ≡ close_price d * d.fixed.shares
  pub none_yet : d.time < 54_300 → d.fixed.shares ≡ 0
  pub blocks_issued : d.blocks.issued ≤ 999_999
  pub blocks_shares : d.blocks.shares ≤ 50_000_000 * d.blocks.issued

-- all of the test but these figures and the screen, which is counted from a book that stands in order
abbrev pub stands_sound : Day → List Order → Bool
stands_sound d book = sound_anywhere d book && in_order book && halt_fits d
