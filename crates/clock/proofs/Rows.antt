-- The row that holds at a second, for any table: one step of the look-up. Assumes nothing.
use Prim.Native.Nat.{ℕ, ◌+◌, ◌≤◌, ◌<◌}
use mathlib.Core.Path.{◌≡◌}
use mathlib.Core.List.{List}
use native.Mathlib.Numerals.{add-one}
use lib.ListN.{length, get_or, drop, drop_of_length-le}
use lib.Seq.{drop-cons}
use borrow.Author.Tests.{lt-ltb, le-ltb}
use Rattle.model.specs.declared.Row.{Row}
use Rattle.model.specs.Clock.{holding}

-- up to the next row's first second the row holds
pub holds_still : (r : Row) (rows : List Row) (d : Row) (n t : ℕ) → n < length rows → t < (get_or rows n d).start → holding r (drop n rows) t ≡ r
unfolding holding
holds_still r rows d n t h e = rw (drop-cons rows n d h, holding, lt-ltb t _ e)

-- from then on the next row and the rows after it decide
pub holds_next : (r : Row) (rows : List Row) (d : Row) (n t : ℕ) → n < length rows → (get_or rows n d).start ≤ t
    → holding r (drop n rows) t ≡ holding (get_or rows n d) (drop (n + 1) rows) t
unfolding holding
holds_next r rows d n t h e = rw (drop-cons rows n d h, holding, le-ltb t _ e, add-one)

-- after the last row there is none
pub holds_on : (r : Row) (rows : List Row) (n t : ℕ) → length rows ≤ n → holding r (drop n rows) t ≡ r
unfolding holding
holds_on r rows n t h = rw (drop_of_length-le rows h, holding)
