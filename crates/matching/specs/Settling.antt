-- The trades of an order that came in, by which the book is settled, and the orders then: shares are off the front of the other side.
use Rattle.std.specs.Prelude.{ℕ, ◌≡◌, List, ◌++◌, eqb, if◌then◌else◌}
use Rattle.model.specs.declared.Order.{Order}
use Rattle.model.specs.declared.Trade.{Trade}
use Rattle.model.specs.declared.Taker.{Taker}
use Rattle.model.specs.Book.{queue, other}
use Rattle.model.specs.Matching.{sweep}
use Rattle.model.specs.Words.{Each}
use Rattle.book.specs.Settling.{off_front}
use Rattle.matching.specs.Sweeping.{at_best}

-- so many shares off the front of the side that an order of this side meets
unfoldable pub off_other : ℕ → ℕ → List Order → List Order
off_other side shares book =
    if eqb side 0
    then queue 0 book ++ off_front shares (queue 1 book)
    else off_front shares (queue 0 book) ++ queue 1 book

-- the trades are those of an order of this side that came in with a number of its own
pub record SweptBy (side : ℕ) (ts : List Trade) (book : List Order) : Type 0 where
  pub taker : Taker
  pub quantity : ℕ
  pub prices : ℕ
  pub its_side : taker.side ≡ side
  pub fresh : Each (λ (o : Order). o.number ≡ taker.number → ⊥) book
  pub trades : ts ≡ sweep taker quantity (at_best prices (queue (other taker.side) book))
