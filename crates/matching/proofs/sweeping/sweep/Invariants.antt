-- At every turn of either loop the trades made since the loop began, with those still to come, are those that were to come
-- then (`Same`); between two prices the next order begins another one.
use Prim.Native.Nat.{◌-◌}
use mathlib.Core.Path.{◌≡◌}
use Rattle.book.specs.Lines.{line}
use Rattle.matching.proofs.Sweeps.{Same, NewPrice}
use Rattle.matching.proofs.sweeping.sweep.Given as goal

abbrev pub invariant-orders : goal.invariant-orders
invariant-orders l =
    Same l.t l.most l.initial.s l.initial.left (line l.initial.at l.end l.rows) l.initial.trades l.s l.left (line l.at l.end l.rows) l.trades
    × (l.s.levels ≡ l.initial.s.levels)
    × (l.s.last ≡ l.price)

abbrev pub decreases-orders : goal.decreases-orders
decreases-orders l = l.end - l.at

abbrev pub invariant-prices : goal.invariant-prices
invariant-prices l =
    Same l.t l.most l.initial.s l.initial.left (line l.initial.at l.end l.rows) l.initial.trades l.s l.left (line l.at l.end l.rows) l.trades
    × NewPrice l.s.last (line l.at l.end l.rows)

abbrev pub decreases-prices : goal.decreases-prices
decreases-prices l = l.most - l.s.levels
