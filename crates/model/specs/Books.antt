-- What an opening and a move of the clock are lent beside the day: the places of the main book, of the book of fixed-price orders
-- (02: #107), and of the declarations of block trades (02: #108). Every other call is lent only the lists that it works on.
use Rattle.std.specs.Prelude.{List}
use Rattle.model.specs.declared.Order.{Order}
use Rattle.model.specs.declared.Declaration.{Declaration}

pub record Books : Type 0 where
  pub main : List Order
  pub fixed : List Order
  pub blocks : List Declaration

-- the books with another list in its place
unfoldable pub with_fixed : List Order → Books → Books
with_fixed book s = record { main = s.main; fixed = book; blocks = s.blocks }

unfoldable pub with_blocks : List Declaration → Books → Books
with_blocks held s = record { main = s.main; fixed = s.fixed; blocks = held }
