-- The qualifying prices by their two ends, and the price that is left by the ends.
use Rattle.std.specs.Prelude.{ℕ, ◌+◌, ◌-◌, Bool, not, ◌&&◌, List, length, get_or, leb, ltb, eqb, if◌then◌else◌}
use Rattle.model.specs.declared.Order.{Order}
use Rattle.model.specs.Lists.{keep}
use Rattle.model.specs.Auction.{prices, distance, demand, supply}
use Rattle.auction.specs.declared.Span.{Span}

-- the first and the last of a list, 0 and 0 where it is empty
unfoldable pub ends : List ℕ → Span
ends ps = record { lo = get_or ps 0 0; hi = get_or ps (length ps - 1) 0 }

-- shares that are some, and cover the other side's
abbrev pub covered : ℕ → ℕ → Bool
covered own other = leb 1 own && leb other own

-- side 1 has turned where the sells at p or below cover the buys above p, side 0 where the buys at p or above no longer
-- cover the sells below p. Either, once so, stays so as the price rises.
unfoldable pub turned : List Order → ℕ → ℕ → Bool
turned book side p =
    if eqb side 0
    then not (covered (demand book p) (supply book (p - 1)))
    else covered (supply book p) (demand book (p + 1))

-- the first price at which a side has turned, 1,000,000 where there is none
unfoldable pub turn_of : List Order → ℕ → ℕ
turn_of book side = get_or (keep (turned book side) prices) 0 1_000_000

-- the absolute difference of demand and supply
unfoldable pub gap : List Order → ℕ → ℕ
gap book p = distance (demand book p) (supply book p)

-- of two prices with their differences the first, or the second where its difference is smaller
abbrev pub flatter_by : ℕ → ℕ → ℕ → ℕ → ℕ
flatter_by p here q there = if ltb there here then q else p

-- an end, or its neighbour where the difference is smaller there
unfoldable pub flatter : List Order → ℕ → ℕ → ℕ
flatter book p q = flatter_by p (gap book p) q (gap book q)

-- the difference beside an end: 0 where a price lies between the ends, else that of the other end
unfoldable pub beside_of : ℕ → ℕ → ℕ → ℕ
beside_of lo hi other = if ltb (lo + 1) hi then 0 else other

-- of the prices a to b the nearest to the reference price
unfoldable pub nearest_in : ℕ → ℕ → ℕ → ℕ
nearest_in ref a b = if ltb ref a then a else if ltb b ref then b else ref
