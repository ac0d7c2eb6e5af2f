-- An order on its way through the other side: the best prices of a queue, what trades come to, and one step of the way.
use Rattle.std.specs.Prelude.{ℕ, ◌+◌, Bool, ◌&&◌, List, map, length, take, ltb}
use Rattle.model.specs.declared.Order.{Order}
use Rattle.model.specs.declared.Trade.{Trade}
use Rattle.model.specs.declared.Taker.{Taker}
use Rattle.model.specs.Lists.{keep, among, once}
use Rattle.model.specs.Book.{other, queue}
use Rattle.model.specs.Matching.{meets, sweep, filled, levels, last_price}
use Rattle.matching.specs.declared.Swept.{Swept}

-- the n best prices of a queue, and its orders that stand at them
unfoldable pub at_best : ℕ → List Order → List Order
at_best n os = keep (λ o. among (take n (once (map (λ o. o.price) os))) o.price) os

-- the trades of a taker with the n best prices of the other side
abbrev pub swept : Taker → ℕ → ℕ → List Order → List Trade
swept t n quantity rows = sweep t quantity (at_best n (queue (other t.side) rows))

-- what a run of trades comes to
unfoldable pub comes_to : List Trade → Swept
comes_to ts = record { trades = length ts; filled = filled ts; levels = levels ts; last = last_price 0 ts }

-- ---- one step

-- a taker that wants q more trades at this price
unfoldable pub wants : Taker → ℕ → ℕ → Bool
wants t q p = ltb 0 q && meets t.side t.limit p

-- one price more
unfoldable pub one_price : Swept → ℕ → Swept
one_price s p = record { trades = s.trades; filled = s.filled; levels = s.levels + 1; last = p }

-- one trade more, at the last price
unfoldable pub one_trade : Swept → Trade → Swept
one_trade s t = record { trades = s.trades + 1; filled = s.filled + t.quantity; levels = s.levels; last = s.last }
