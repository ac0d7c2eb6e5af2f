-- The definitions' desk, as the program holds it: the day, once one is open, and the rows of the book. No answer depends on
-- the rest: the places while no day is open, and what stands in the trade list before a call.
use Rattle.model.specs.declared.Order as Orders
use Rattle.std.specs.Prelude.{ℕ, ◌≤◌, ◌≡◌, Bool, true, false, ◌&&◌, List, length}
use Rattle.std.proofs.Math.Option.{Option, none, some}
use Rattle.model.specs.declared.Trade.{Trade}
use Rattle.model.specs.declared.Command.{Command}
use Rattle.model.specs.declared.Command.TheVariants.{Malformed, Asks}
use Rattle.model.specs.declared.Event.TheVariants.{Open, Clock, Order, Cancel}
use Rattle.model.specs.Refusals.{unsound}
use Rattle.model.specs.Calls.{order_call}
use Rattle.model.specs.ClockCall.{clock_call}
use Rattle.model.specs.Session as Session
use Rattle.printing.specs.Printing.{Wrote}
use Rattle.desk.specs.declared.Desk as Desk
use Rattle.desk.specs.declared.Answered.{Answered}

abbrev pub desk_of : Desk.Desk → List Orders.Order → Option Session.Desk
desk_of Desk.TheVariants.Closed rows = none
desk_of (Desk.TheVariants.Open d) rows = some (record { day = d; book = rows })

abbrev pub not_sound : Option Session.Desk → Bool
not_sound none = false
not_sound (some s) = unsound s.day s.book

-- a line that asks something of the open day
unfoldable pub asks_day : Command → Bool
asks_day Malformed = false
asks_day (Asks (Open close mark)) = false
asks_day (Asks (Clock t)) = true
asks_day (Asks (Order a)) = true
asks_day (Asks (Cancel account number)) = true

-- 15: and that day is not sound
unfoldable pub asks_unsound : Command → Option Session.Desk → Bool
asks_unsound c k = asks_day c && not_sound k

-- the definitions' answer, put into a buffer at a place: its text stands there, all of it, and its desk is what the answer
-- leaves; while no day is open the places stay
pub record Leaves (a : Session.Answered) (rows : List Orders.Order) (before : List ℕ) (at : ℕ) (rows' : List Orders.Order) (after : List ℕ) (r : Answered) : Type 0 where
  pub text : Wrote before at a.text after r.next
  pub fits : r.next ≤ length after
  pub desk : desk_of r.desk rows' ≡ a.desk
  pub idle : r.desk ≡ Desk.TheVariants.Closed → rows' ≡ rows

-- the trade list as the call that a line asks for leaves it
abbrev pub trades_left : Command → Option Session.Desk → List Trade → List Trade
trades_left (Asks (Clock t)) (some s) lent = (clock_call s.day t s.book lent).trades
trades_left (Asks (Order a)) (some s) lent = (order_call s.day a s.book lent).trades
trades_left (Asks (Clock t)) none lent = lent
trades_left (Asks (Order a)) none lent = lent
trades_left Malformed k lent = lent
trades_left (Asks (Open close mark)) k lent = lent
trades_left (Asks (Cancel account number)) k lent = lent

-- the answer to what a line asks for, and all lent memory
pub record Answering (c : Command) (desk : Desk.Desk) (rows : List Orders.Order) (trades : List Trade) (before : List ℕ) (at : ℕ) (rows' : List Orders.Order) (trades' : List Trade) (after : List ℕ) (r : Answered) : Type 0 where
  pub leaves : Leaves (Session.answer c (desk_of desk rows)) rows before at rows' after r
  pub list : trades' ≡ trades_left c (desk_of desk rows) trades
