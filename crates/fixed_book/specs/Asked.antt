-- A fixed-price order as it is asked for, once no rule on itself holds.
use Rattle.std.specs.Prelude.{◌≤◌, ◌≡◌, true, false}
use Rattle.model.specs.declared.Order.{Order}
use Rattle.model.specs.declared.AskedFixed.{AskedFixed}
use Rattle.model.specs.declared.Day.{Day}
use Rattle.model.specs.Clock.{long_hours}
use Rattle.model.specs.Figures.{close_price, next_fixed}
use Rattle.model.specs.FixedBook.{wrong_side}
use Rattle.model.specs.Words.{Price}
use Rattle.soundness.specs.SoundDay.{InBand}

pub record Fine (d : Day) (a : AskedFixed) : Type 0 where
  pub side : a.side ≤ 1
  pub account : a.account ≡ 0 → ⊥
  pub hours : long_hours d.time ≡ true
  pub some : 1 ≤ a.quantity
  pub most : a.quantity ≤ 1_000_000
  pub price : Price a.price
  pub band : d.limited ≡ 1 → InBand d.close a.price
  pub close_side : 54_300 ≤ d.time → wrong_side a.side a.price (close_price d) ≡ false

-- the order that it becomes, with the next number of its book
abbrev pub incoming : Day → AskedFixed → Order
incoming d a =
    record { side = a.side; account = a.account; left = a.quantity; price = a.price; number = next_fixed d }
