-- The prices of an order by its kind, from the best prices of its own side and of the other side as numbers.
use Rattle.std.specs.Prelude.{ℕ, leb, eqb, if◌then◌else◌}
use Rattle.model.specs.declared.Asked.{Asked}
use Rattle.model.specs.Matching.{within}

-- a best price, or the protection limit where that is beyond it; 0 where the side is empty
unfoldable pub best_for : Asked → ℕ → ℕ
best_for a best = if eqb best 0 then 0 else within a.side a.price best

-- the price at which an order enters
unfoldable pub entry_at : Asked → ℕ → ℕ → ℕ
entry_at a own opposite =
    if eqb a.kind 1 then best_for a opposite
    else if eqb a.kind 2 then best_for a own
    else a.price

-- the price at which what is left of it rests, from what was filled and the price of its last trade
unfoldable pub rest_at : Asked → ℕ → ℕ → ℕ → ℕ → ℕ
rest_at a own opposite filled last =
    if eqb a.kind 3 then 0
    else if eqb a.kind 4 then (if eqb filled 0 then best_for a own else last)
    else entry_at a own opposite

-- how many of the best prices a kind may trade at: five, or more than any book has
unfoldable pub most_prices : ℕ → ℕ
most_prices kind = if leb 3 kind then 5 else 4_096
