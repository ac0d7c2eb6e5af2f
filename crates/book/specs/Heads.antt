-- How far an auction has come on a side: the order that trades next, with what is left of it, and those behind it.
use Rattle.std.specs.Prelude.{ℕ, ◌+◌, ◌-◌, List, [], ◌∷◌, ltb, if◌then◌else◌}
use Rattle.model.specs.declared.Order.{Order}
use Rattle.book.specs.declared.Head.{Head}

-- the first of the orders from a place on
unfoldable pub head_of : ℕ → List Order → Head
head_of at [] = record { at = at; number = 0; price = 0; left = 0 }
head_of at (o ∷ os) = record { at = at; number = o.number; price = o.price; left = o.left }

-- a head when q of it have traded, where os are behind it: itself while something is left, else the next
unfoldable pub head_past : ℕ → Head → List Order → Head
head_past q h os =
    if ltb q h.left then record { at = h.at; number = h.number; price = h.price; left = h.left - q } else head_of (h.at + 1) os

-- the head as an order, of which only the number, the price and the shares matter here
unfoldable pub as_order : Head → Order
as_order h = record { side = 0; account = 0; left = h.left; price = h.price; number = h.number }

-- who is still to trade: the head, and those behind it
unfoldable pub waiting : Head → List Order → List Order
waiting h os = if ltb 0 h.left then as_order h ∷ os else os
