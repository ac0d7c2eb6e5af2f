-- A move of the clock as the code makes it: the state that it has reached, in memory.
use Rattle.std.specs.Prelude.{◌+◌, ◌*◌, ◌≤◌, ◌≡◌, List, length, take, drop}
use Rattle.model.specs.declared.Order.{Order}
use Rattle.model.specs.Lists.{total}
use Rattle.model.specs.ClockCall.{Held}
use Rattle.book.specs.Standing.{Ranked}
use Rattle.moves.specs.declared.Passage.{Passage}
use Rattle.model.specs.declared.Trade.{Trade}

-- a day and its book in the middle of a move, with the trades so far at the front of the lent list
abbrev pub so_far : Passage → List Order → List Trade → Held
so_far p rows trades = record { day = p.day; book = rows; trades = (take p.made trades) }

-- what a stop's step may use of them: the book stands in order, and the figures have room for its trades
pub record Underway (h : Held) : Type 0 where
  pub ranked : Ranked h.book
  -- each share traded was bought and sold, out of at most 1,000,000 for each number
  pub shares : 2 * h.day.shares + total (λ (o : Order). o.left) h.book ≤ 1_000_000 * 999_999
  pub most : h.day.turnover ≤ 999_999 * h.day.shares
  pub opened : h.day.first ≤ 999_999

-- the state h stands in memory, and past its trades the lent list is as it was
pub record Reached (h : Held) (lent : List Trade) (p : Passage) (rows : List Order) (trades : List Trade) : Type 0 where
  pub state : so_far p rows trades ≡ h
  pub within : p.made ≤ length trades
  pub past : drop p.made trades ≡ drop p.made lent
