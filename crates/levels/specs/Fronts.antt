-- The prices at the front of a side, one after the other.
use Rattle.std.specs.Prelude.{ℕ, zero, suc, ◌+◌, List, [], ◌∷◌, drop}
use Rattle.model.specs.declared.Order.{Order}
use Rattle.model.specs.declared.Level.{Level}
use Rattle.model.specs.declared.Levels.{Levels}
use Rattle.model.specs.Figures.{no_level}
use Rattle.auction.specs.Tiers.{run_of, alike}
use Rattle.levels.specs.declared.Next.{Next}

-- the first price and the shares at the front that stand at it, and the orders behind those
unfoldable pub first_level : List Order → Level
first_level [] = no_level
first_level (o ∷ os) = record { price = o.price; shares = o.left + run_of o.price os }

unfoldable pub behind_first : List Order → List Order
behind_first [] = []
behind_first (o ∷ os) = drop (alike o.price os) os

-- of orders that stand from a place on: that price, and the place behind it
unfoldable pub next_from : ℕ → List Order → Next
next_from at [] = record { level = no_level; behind = at }
next_from at (o ∷ os) = record { level = first_level (o ∷ os); behind = at + 1 + alike o.price os }

-- each price one line further up, and one on the last line
unfoldable pub moved_up : Levels → Level → Levels
moved_up ls l = record { first = ls.second; second = ls.third; third = ls.fourth; fourth = ls.fifth; fifth = l }

-- the first n prices of the orders, one after the other
unfoldable pub shown : ℕ → List Order → Levels → Levels
shown zero os ls = ls
shown (suc n) os ls = shown n (behind_first os) (moved_up ls (first_level os))
