-- A fixed-price order's rules but 15, in the groups in which the code goes through them: what is asked, and the book with the lent list.
-- Law `fixed_groups` says that with 15 before them these are the rules of the definition, in its order.
use Rattle.std.specs.Prelude.{ℕ, ◌<◌, ◌≡◌, not, ◌&&◌, List, [], ◌∷◌, length, leb, ltb, eqb, if◌then◌else◌}
use Rattle.model.specs.declared.Order.{Order}
use Rattle.model.specs.declared.AskedFixed.{AskedFixed}
use Rattle.model.specs.declared.Trade.{Trade}
use Rattle.model.specs.declared.Day.{Day}
use Rattle.model.specs.declared.OrderAnswer.{OrderAnswer}
use Rattle.model.specs.Lists.{keep, all}
use Rattle.model.specs.Clock.{long_hours, matching_from}
use Rattle.model.specs.Limits.{is_price, is_quantity, in_band}
use Rattle.model.specs.Book.{is_live}
use Rattle.model.specs.Figures.{close_price}
use Rattle.model.specs.FixedBook.{wrong_side}
use Rattle.model.specs.Refusals.{Rule, ◌when◌, first_of}
use Rattle.model.specs.Calls.{Outcome}
use Rattle.model.specs.FixedCalls.{fixed_trades, fixed_entered}
use Rattle.book.specs.Promises.{order_refused}
use Rattle.fixed_book.specs.Ready.{FixedReady}

unfoldable pub asked_rules : Day → AskedFixed → List Rule
asked_rules d a =
    2 when (not (leb a.side 1))
    ∷ 3 when (eqb a.account 0)
    ∷ 19 when (not (long_hours d.time))
    ∷ 6 when (not (is_quantity a.side a.quantity a.balance))
    ∷ 7 when (not (is_price a.price))
    ∷ 8 when (eqb d.limited 1 && not (in_band d.close a.price))
    ∷ 20 when (leb matching_from d.time && wrong_side a.side a.price (close_price d))
    ∷ []

unfoldable pub book_rules : Day → AskedFixed → List Order → ℕ → List Rule
book_rules d a book room =
    10 when (all is_live book)
    ∷ 11 when (eqb d.fixed.issued 999_999)
    ∷ 13 when (ltb room (length (fixed_trades d a book)))
    ∷ []

-- an order that no rule but 13 refuses, and the place where it goes
pub record Welcome (d : Day) (a : AskedFixed) (book : List Order) (place : ℕ) : Type 0 where
  pub ready : FixedReady d book
  pub asked : first_of (asked_rules d a) ≡ 0
  pub behind : place ≡ length (keep is_live book)
  pub free : place < length book
  pub numbers : d.fixed.issued < 999_999

-- what becomes of it: 13 where its trades outnumber the lent list
unfoldable pub welcomed : Day → AskedFixed → List Order → List Trade → Outcome OrderAnswer
welcomed d a book lent =
    if ltb (length lent) (length (fixed_trades d a book))
    then record { answer = order_refused d 13; book = book; trades = lent }
    else fixed_entered d a book lent
