-- What a move will come to in the main book: how many trades, and the close after it.
use Rattle.std.specs.Prelude.{ℕ, List, length}
use Rattle.model.specs.declared.Order.{Order}
use Rattle.model.specs.declared.Day.{Day}
use Rattle.model.specs.Figures.{close_price}
use Rattle.model.specs.ClockCall.{moved}
use Rattle.foreseen.specs.declared.Foreseen as declared

unfoldable pub foreseen : Day → ℕ → List Order → declared.Foreseen
foreseen d t book = record { trades = length (moved d t book).trades; close = close_price (moved d t book).day }
