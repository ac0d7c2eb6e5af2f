-- An order's rules, in the groups in which the code goes through them: what is asked by itself, when it is asked, its numbers,
-- the book, and the lent list. Law `order_groups` says that these are document 01's rules, in its order.
use Rattle.std.specs.Prelude.{ℕ, Bool, not, ◌&&◌, ◌||◌, List, [], ◌∷◌, ◌++◌, length, leb, ltb, eqb, if◌then◌else◌}
use Rattle.model.specs.declared.Order.{Order}
use Rattle.model.specs.declared.Asked.{Asked}
use Rattle.model.specs.declared.Day.{Day}
use Rattle.model.specs.Lists.{all}
use Rattle.model.specs.Clock.{continuous, takes_orders}
use Rattle.model.specs.Limits.{is_price, is_quantity, in_band, in_range}
use Rattle.model.specs.Book.{is_live}
use Rattle.model.specs.Figures.{reference}
use Rattle.model.specs.Halts.{phase_now}
use Rattle.model.specs.Entry.{entry_trades, base}
use Rattle.model.specs.Refusals.{Rule, ◌when◌}

unfoldable pub form_rules : Asked → List Rule
form_rules a = 2 when (not (leb a.side 1 && leb a.kind 4)) ∷ 3 when (eqb a.account 0) ∷ []

unfoldable pub hour_rules : Day → Asked → List Rule
hour_rules d a =
    4 when (not (takes_orders d.time))
    ∷ 5 when (not (eqb a.kind 0) && (not (eqb (phase_now d) continuous) || eqb d.limited 0))
    ∷ []

unfoldable pub number_rules : Day → Asked → List Rule
number_rules d a =
    6 when (not (is_quantity a.side a.quantity a.balance))
    ∷ 7 when (not (is_price a.price))
    ∷ 8 when (eqb d.limited 1 && not (in_band d.close a.price))
    ∷ []

-- all of these, before the book is looked at
unfoldable pub asked_rules : Day → Asked → List Rule
asked_rules d a = form_rules a ++ (hour_rules d a ++ number_rules d a)

-- the base of the order range, from the best prices of its own side and of the other as numbers
unfoldable pub base_from : Day → ℕ → ℕ → ℕ
base_from d own other =
    if not (eqb other 0) then other
    else if not (eqb own 0) then own
    else reference d

-- a limit order in continuous trading that is outside its range
abbrev pub outside_of : Asked → ℕ → ℕ → Bool
outside_of a phase base = eqb a.kind 0 && eqb phase continuous && not (in_range a.side base a.price)

unfoldable pub book_rules : Day → Asked → List Order → List Rule
book_rules d a book =
    9 when
    (eqb a.kind 0
    && eqb (phase_now d) continuous
    && not (in_range a.side (base d a.side book) a.price))
    ∷ 10 when (all is_live book)
    ∷ 11 when (eqb d.issued 999_999)
    ∷ []

-- a lent list of so many places
unfoldable pub list_rules : Day → Asked → List Order → ℕ → List Rule
list_rules d a book places = 13 when (ltb places (length (entry_trades d a book))) ∷ []
