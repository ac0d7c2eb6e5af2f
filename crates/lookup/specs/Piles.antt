-- The place of an order by its number, and the piles on which it is found. Places are counted from 1, and 0 is none.
use Rattle.std.specs.Prelude.{ℕ, zero, suc, ◌+◌, ◌%◌, ◌≤◌, ◌<◌, ◌≡◌, Bool, true, ◌&&◌, List, length, get_or, set, replicate, eqb, if◌then◌else◌}
use Rattle.model.specs.declared.Order.{Order}
use Rattle.model.specs.Book.{free, is_live}

-- of the first i places the last whose order passes a test, or 0
unfoldable pub last_of : (Order → Bool) → List Order → ℕ → ℕ
last_of t book zero = 0
last_of t book (suc i) = if t (get_or book i free) then suc i else last_of t book i

-- a live order with this number
unfoldable pub bears : ℕ → Order → Bool
bears n o = is_live o && eqb o.number n

unfoldable pub place_by : ℕ → List Order → ℕ
place_by n book = last_of (bears n) book (length book)

-- ---- the piles

-- a live order whose number has this remainder
unfoldable pub on_pile : ℕ → Order → Bool
on_pile r o = is_live o && eqb (o.number % 65_536) r

unfoldable pub none_yet : ℕ → List ℕ
none_yet n = replicate n 0

-- the order at place i goes on top of its pile, and what was on top before lies under it
unfoldable pub tops_with : Order → ℕ → List ℕ → List ℕ
tops_with o i tops = if is_live o then set tops (o.number % 65_536) (i + 1) else tops

unfoldable pub under_with : Order → ℕ → List ℕ → List ℕ → List ℕ
under_with o i tops under = if is_live o then set under i (get_or tops (o.number % 65_536) 0) else under

-- the orders of the first i places lie on their piles: on top the last place, and under each place the one before it
pub record Piled (book : List Order) (i : ℕ) (tops under : List ℕ) : Type 0 where
  pub wide : length tops ≡ 65_536
  pub long : length book ≤ length under
  pub top : (r : ℕ) → get_or tops r 0 ≡ last_of (on_pile r) book i
  pub below :
      (j : ℕ)
      → j < i
      → is_live (get_or book j free) ≡ true
      → get_or under j 0 ≡ last_of (on_pile ((get_or book j free).number % 65_536)) book j
