-- Orders of which shares have come off the front, and orders with free places behind them.
use Rattle.std.specs.Prelude.{ℕ, ◌-◌, ◌≤◌, ◌≡◌, List, [], ◌∷◌, ◌++◌, length, take, drop, replicate, ltb, if◌then◌else◌}
use Rattle.model.specs.declared.Order.{Order}
use Rattle.model.specs.Book.{free}
use Rattle.model.specs.Matching.{less_by}
use Rattle.book.specs.Lines.{line}

-- orders when so many shares have come off, one order after the other: who has none left is gone
unfoldable pub off_front : ℕ → List Order → List Order
off_front v [] = []
off_front v (o ∷ os) = if ltb v o.left then less_by v o ∷ os else off_front (v - o.left) os

-- n places: the orders as they stand, and free places behind them
unfoldable pub placed : ℕ → List Order → List Order
placed n os = take n (os ++ replicate n free)

-- no order stands from a place on
abbrev pub FreeFrom : ℕ → List Order → Type 0
FreeFrom end rows = drop end rows ≡ replicate (length rows - end) free

-- shares have come off the orders from a place up to another: what is left of them stands from r on, and nothing else has changed
pub record CutAt (shares from to : ℕ) (rows rows' : List Order) (r : ℕ) : Type 0 where
  pub kept : line r to rows' ≡ off_front shares (line from to rows)
  pub before : take r rows' ≡ take r rows
  pub behind : drop to rows' ≡ drop to rows
  pub least : from ≤ r
  pub most : r ≤ to
