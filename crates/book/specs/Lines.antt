-- The orders of a side as they stand in the book.
use Rattle.std.specs.Prelude.{ℕ, ◌≤◌, ◌≡◌, List, length, take, drop}
use Rattle.model.specs.declared.Order.{Order}
use Rattle.model.specs.Book.{queue}
use Rattle.book.specs.declared.Stretch.{Stretch}

-- the orders from a place up to another
unfoldable pub line : ℕ → ℕ → List Order → List Order
line at end rows = drop at (take end rows)

-- where a side stands
pub record StretchOf (side : ℕ) (rows : List Order) (r : Stretch) : Type 0 where
  pub orders : line r.from r.to rows ≡ queue side rows
  pub some : r.from ≤ r.to
  pub within : r.to ≤ length rows
