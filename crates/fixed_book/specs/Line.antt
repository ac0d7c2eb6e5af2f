-- The line in its places, as orders are brought up one behind the other.
use Rattle.std.specs.Prelude.{ℕ, ◌+◌, ◌≡◌, true, false, List, get_or, set}
use Rattle.model.specs.declared.Order.{Order}
use Rattle.model.specs.Book.{free, is_live}
use Rattle.model.specs.Words.{Each}

-- a place without an order is all zeros
abbrev pub Tidy : List Order → Type 0
Tidy book = Each (λ o. o.number ≡ 0 → o ≡ free) book

-- the order at one place is at another now, and the next goes behind it; where there was none, nothing changes
pub record BroughtUp (from to : ℕ) (book book' : List Order) (next : ℕ) : Type 0 where
  pub live : is_live (get_or book from free) ≡ true → (book' ≡ set (set book from free) to (get_or book from free)) × (next ≡ to + 1)
  pub none : is_live (get_or book from free) ≡ false → (book' ≡ book) × (next ≡ to)
