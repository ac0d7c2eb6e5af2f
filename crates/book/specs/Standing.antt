-- What a sound day gives of its book: orders as they may stand in one, and a book in its order.
use Rattle.std.specs.Prelude.{◌≤◌, ◌≡◌, List, length}
use Rattle.model.specs.declared.Order.{Order}
use Rattle.model.specs.Book.{free}
use Rattle.model.specs.Words.{Each, Apart, Ordered}

-- a place is free, or has an order with a side, a price, shares and a number
pub record Fair (o : Order) : Type 0 where
  pub side : o.side ≤ 1
  pub price : o.price ≤ 999_999
  pub number : o.number ≤ 999_999
  pub left : o.left ≤ 1_000_000
  pub none : o.number ≡ 0 → o ≡ free
  pub some : (o.number ≡ 0 → ⊥) → 1 ≤ o.left
  pub priced : (o.number ≡ 0 → ⊥) → 1 ≤ o.price

-- orders as they may stand in a book, wherever they do
pub record Standing (os : List Order) : Type 0 where
  pub fair : Each Fair os
  pub apart : Apart os

-- all that the functions below the calls ask of a book in memory
pub record Ranked (book : List Order) : Type 0 where
  pub stands : Standing book
  pub few : length book ≤ 4_096
  pub ordered : Ordered book
