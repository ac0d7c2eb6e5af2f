-- What the close leaves of the line: void orders are gone, and so many shares come off the first of either side.
use Rattle.std.specs.Prelude.{ℕ, ◌+◌, ◌-◌, List, [], ◌∷◌, eqb, if◌then◌else◌}
use Rattle.model.specs.declared.Order.{Order}
use Rattle.model.specs.Book.{free}
use Rattle.model.specs.Matching.{less_by}
use Rattle.model.specs.FixedBook.{is_void}
use Rattle.fixed_book.specs.declared.Owed.{Owed}

-- what is still to come off a side
unfoldable pub owed_by : Owed → ℕ → ℕ
owed_by w side = if eqb side 0 then w.buys else w.sells

-- what is left of an order when so much is still to come off either side
unfoldable pub left_of : ℕ → Owed → Order → Order
left_of close w o = if is_void close o then free else less_by (owed_by w o.side) o

-- and what is still to come off those behind it
unfoldable pub owed_behind : ℕ → Owed → Order → Owed
owed_behind close w o =
    if is_void close o then record { buys = w.buys; sells = w.sells; void = w.void + o.left }
    else if eqb o.side 0 then record { buys = w.buys - o.left; sells = w.sells; void = w.void }
    else record { buys = w.buys; sells = w.sells - o.left; void = w.void }

-- the line when so many shares have come off the first buys and so many off the first sells; who is gone leaves its place free
unfoldable pub left_over : ℕ → ℕ → ℕ → List Order → List Order
left_over close buys sells [] = []
left_over close buys sells (o ∷ os) =
    if is_void close o then free ∷ left_over close buys sells os
    else if eqb o.side 0 then less_by buys o ∷ left_over close (buys - o.left) sells os
    else less_by sells o ∷ left_over close buys (sells - o.left) os
