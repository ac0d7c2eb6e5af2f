-- The day after an order: its figures have room for the order's trades, and their prices can be measured from its open. Assumes nothing.
use Prim.Native.Nat.{◌+◌, ◌^◌, ◌≤◌, ◌<◌}
use mathlib.Core.Path.{◌≡◌, ap, ◌∙◌}
use mathlib.Core.Bool.{Bool, true, false, cond}
use mathlib.Core.List.{List, [], ◌∷◌}
use native.Mathlib.Omega.{arith}
use lib.Dec.{eqb}
use Rattle.model.specs.declared.Trade.{Trade}
use Rattle.model.specs.declared.Day.{Day}
use Rattle.model.specs.Matching.{filled, first_price}
use Rattle.model.specs.Figures.{issue, money, tally, open_price}
use Rattle.model.specs.Halts.{fired}
use Rattle.model.specs.Words.{Each}
use Rattle.halts.specs.Priced.{Priced}
use Rattle.orders.specs.Taken.{RoomFor}

-- the first of these prices, or 0
first_small : (ts : List Trade) → Each (λ (t : Trade). t.price ≤ 999_999) ts → first_price 0 ts ≤ 999_999
unfolding first_price
first_small [] e = omega arith
first_small (t ∷ ts) e = e.0

module _ (d : Day) (ts : List Trade) (room : RoomFor d ts) {i : Day} (ei : i ≡ issue d) where
  pub shares_room : i.shares + filled ts < 2 ^ 64
  unfolding issue
  shares_room = rw ei room.shares

  pub money_room : i.turnover + money ts < 2 ^ 64
  unfolding issue
  money_room = rw ei room.money

  pub then_is : {day after : Day} → day ≡ tally ts i → after ≡ fired d.time ts day → after ≡ fired d.time ts (tally ts (issue d))
  then_is ed ef = ef ∙ ap (fired d.time ts) (ed ∙ ap (tally ts) ei)

  pub then_priced : {day : Day} → day ≡ tally ts i → Priced day ts
  then_priced {day} ed = record { opened = rw (ed, ei) opened; trades = room.priced }
    where
      opened : open_price (tally ts (issue d)) ≤ 999_999
      opened = unfold open_price tally issue in go (eqb d.first 0)
        where
          go : (b : Bool) → cond b (first_price 0 ts) d.first ≤ 999_999
          go true = first_small ts room.priced
          go false = room.opened
