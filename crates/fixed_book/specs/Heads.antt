-- Who trades next at the close on a side: the first of those from a place on that are not void, with what is left of it.
use Rattle.std.specs.Prelude.{ℕ, ◌+◌, ◌<◌, ◌≡◌, Bool, not, ◌&&◌, List, [], ◌∷◌, map, length, drop, ltb, if◌then◌else◌}
use Rattle.model.specs.declared.Order.{Order}
use Rattle.model.specs.Lists.{keep}
use Rattle.model.specs.Book.{stands_on}
use Rattle.model.specs.Pairing.{Share}
use Rattle.model.specs.FixedBook.{is_void}
use Rattle.book.specs.declared.Head.{Head}

-- an order of a side that is not void
unfoldable pub may_trade : ℕ → ℕ → Order → Bool
may_trade close side o = not (is_void close o) && stands_on side o

-- what an order brings, and a head
abbrev pub brings : Order → Share
brings o = record { number = o.number; left = o.left; whole = o.left }

abbrev pub head_share : Head → Share
head_share h = record { number = h.number; left = h.left; whole = h.left }

-- what those from a place on bring
unfoldable pub shares_from : ℕ → ℕ → ℕ → List Order → List Share
shares_from close side at book = map brings (keep (may_trade close side) (drop at book))

-- the head, and those behind it; nobody where nothing is left of it
unfoldable pub headed : ℕ → ℕ → Head → List Order → List Share
headed close side h book = if ltb 0 h.left then head_share h ∷ shares_from close side (h.at + 1) book else []

-- a head that stands for these shares
pub record HeadOf (close side : ℕ) (book : List Order) (ss : List Share) (h : Head) : Type 0 where
  pub same : headed close side h book ≡ ss
  pub inside : 0 < h.left → h.at < length book
