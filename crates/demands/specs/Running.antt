-- Demand 2: runs of clock moves, orders and cancels from an accepted opening.
use Rattle.std.specs.Prelude.{ℕ, ◌≡◌, refl, Bool, true, false, List, [], ◌∷◌, ◌++◌, map, length, get_or, take}
use Rattle.model.specs.declared.Order.{Order}
use Rattle.model.specs.declared.Asked.{Asked}
use Rattle.model.specs.declared.Trade.{Trade}
use Rattle.model.specs.declared.Event as Event
use Rattle.model.specs.declared.OpenReply as OpenReply
use Rattle.model.specs.declared.OrderReply as OrderReply
use Rattle.model.specs.declared.CancelReply as CancelReply
use Rattle.model.specs.Lists.{from}
use Rattle.model.specs.Matching.{filled, first_price, last_price, highest, lowest}
use Rattle.model.specs.Figures.{money, open_price, close_price}
use Rattle.model.specs.Screen.{screen_of}
use Rattle.model.specs.Calls.{OpenOutcome, open_call, order_call, cancel_call}
use Rattle.model.specs.ClockCall.{clock_call}
use Rattle.model.specs.Replies.{open_numbers, order_numbers, cancel_numbers, clock_numbers}
use Rattle.model.specs.Session.{Desk}
use Rattle.model.specs.Words.{Each, Some, Apart, Sound}

-- an event that starts a day over
unfoldable pub is_opening : Event.Event → Bool
is_opening (Event.TheVariants.Open close mark) = true
is_opening (Event.TheVariants.Clock t) = false
is_opening (Event.TheVariants.Order a) = false
is_opening (Event.TheVariants.Cancel account number) = false

-- a call on an open day: any event but an opening, and the trade list that it is lent
pub record Call : Type 0 where
  pub event : Event.Event
  pub within : is_opening event ≡ false
  pub lent : List Trade

unfoldable pub moves_to : ℕ → List Trade → Call
unfolding is_opening
moves_to t lent = record { event = Event.TheVariants.Clock t; within = refl; lent = lent }

unfoldable pub enters : Asked → List Trade → Call
unfolding is_opening
enters a lent = record { event = Event.TheVariants.Order a; within = refl; lent = lent }

-- a cancel cannot trade, so it is lent no list
unfoldable pub cancels : ℕ → ℕ → Call
unfolding is_opening
cancels account number = record { event = Event.TheVariants.Cancel account number; within = refl; lent = [] }

-- its answer as the paper's numbers: the refusal first, 0 where it is accepted
unfoldable pub answered_by : Event.Event → List Trade → Desk → List ℕ
answered_by (Event.TheVariants.Open close mark) lent s = open_numbers (open_call close mark s.book).reply
answered_by (Event.TheVariants.Clock t) lent s = clock_numbers (clock_call s.day t s.book lent).answer.reply
answered_by (Event.TheVariants.Order a) lent s = order_numbers (order_call s.day a s.book lent).answer.reply
answered_by (Event.TheVariants.Cancel account number) lent s =
    cancel_numbers (cancel_call s.day account number s.book).answer.reply

abbrev pub answered : Call → Desk → List ℕ
answered c s = answered_by c.event c.lent s

-- a new day, or the old one where that is refused
unfoldable pub reopened : OpenOutcome → Desk → Desk
reopened o s =
    elim o.reply [
      | OpenReply.TheVariants.Refused n ↦ s
      | OpenReply.TheVariants.Opened d ↦ record { day = d; book = o.book }
    ]

-- the day and the book then
unfoldable pub stepped_by : Event.Event → List Trade → Desk → Desk
stepped_by (Event.TheVariants.Open close mark) lent s = reopened (open_call close mark s.book) s
stepped_by (Event.TheVariants.Clock t) lent s =
    record {
      day = (clock_call s.day t s.book lent).answer.day;
      book = (clock_call s.day t s.book lent).book;
    }
stepped_by (Event.TheVariants.Order a) lent s =
    record {
      day = (order_call s.day a s.book lent).answer.day;
      book = (order_call s.day a s.book lent).book;
    }
stepped_by (Event.TheVariants.Cancel account number) lent s =
    record {
      day = (cancel_call s.day account number s.book).answer.day;
      book = (cancel_call s.day account number s.book).book;
    }

abbrev pub stepped : Call → Desk → Desk
stepped c s = stepped_by c.event c.lent s

-- the trades that it made
unfoldable pub trades_of_event : Event.Event → List Trade → Desk → List Trade
trades_of_event (Event.TheVariants.Open close mark) lent s = []
trades_of_event (Event.TheVariants.Clock t) lent s =
    take (clock_call s.day t s.book lent).answer.made (clock_call s.day t s.book lent).trades
trades_of_event (Event.TheVariants.Order a) lent s =
    take (order_call s.day a s.book lent).answer.made (order_call s.day a s.book lent).trades
trades_of_event (Event.TheVariants.Cancel account number) lent s = []

abbrev pub traded_by : Call → Desk → List Trade
traded_by c s = trades_of_event c.event c.lent s

-- whose an accepted order is
pub record Owner : Type 0 where
  pub number : ℕ
  pub account : ℕ
  pub side : ℕ

unfoldable pub owners_by : Asked → OrderReply.OrderReply → List Owner
owners_by a (OrderReply.TheVariants.Refused n) = []
owners_by a (OrderReply.TheVariants.Accepted e) =
    record { number = e.number; account = a.account; side = a.side } ∷ []

unfoldable pub accepted_by : Event.Event → List Trade → Desk → List Owner
accepted_by (Event.TheVariants.Open close mark) lent s = []
accepted_by (Event.TheVariants.Clock t) lent s = []
accepted_by (Event.TheVariants.Order a) lent s = owners_by a (order_call s.day a s.book lent).answer.reply
accepted_by (Event.TheVariants.Cancel account number) lent s = []

abbrev pub accepted : Call → Desk → List Owner
accepted c s = accepted_by c.event c.lent s

-- ---- a run: its answers, the desk after it, its trades and its accepted orders

unfoldable pub answers : List Call → Desk → List (List ℕ)
answers [] s = []
answers (c ∷ cs) s = answered c s ∷ answers cs (stepped c s)

unfoldable pub after : List Call → Desk → Desk
after [] s = s
after (c ∷ cs) s = after cs (stepped c s)

unfoldable pub trades_in : List Call → Desk → List Trade
trades_in [] s = []
trades_in (c ∷ cs) s = traded_by c s ++ trades_in cs (stepped c s)

unfoldable pub accepted_in : List Call → Desk → List Owner
accepted_in [] s = []
accepted_in (c ∷ cs) s = accepted c s ++ accepted_in cs (stepped c s)

-- what an accepted opening leaves, for any close, mark and places
pub record Fresh (s : Desk) : Type 0 where
  pub close : ℕ
  pub mark : ℕ
  pub places : List Order
  pub opened : (open_call close mark places).reply ≡ OpenReply.TheVariants.Opened s.day
  pub book : (open_call close mark places).book ≡ s.book

-- an accepted order that a resting one may be: the same number, account and side
pub record Is (o : Order) (w : Owner) : Type 0 where
  pub number : w.number ≡ o.number
  pub account : w.account ≡ o.account
  pub side : w.side ≡ o.side

pub record Running (cs : List Call) (s : Desk) : Type 0 where
  -- no reply of the run is 15
  pub never_unsound : Each (λ (ns : List ℕ). get_or ns 0 0 ≡ 15 → ⊥) (answers cs s)
  pub kept : Sound (after cs s).day (after cs s).book
  -- the accepted orders have the numbers 1, 2, 3 and on, so none is issued twice, and the day counts them
  pub once : map (λ (w : Owner). w.number) (accepted_in cs s) ≡ from 1 (length (accepted_in cs s))
  pub counted : (after cs s).day.issued ≡ length (accepted_in cs s)
  -- every resting order is one of them, with its account and side, and no two rest with one number
  pub theirs : Each (λ (o : Order). (o.number ≡ 0 → ⊥) → Some (Is o) (accepted_in cs s)) (after cs s).book
  pub apart : Apart (after cs s).book
  -- the day's totals are those of all trades of the run; open is the first one's price, close the last one's or the previous
  -- close
  pub shares : (after cs s).day.shares ≡ filled (trades_in cs s)
  pub turnover : (after cs s).day.turnover ≡ money (trades_in cs s)
  pub opens_at : open_price (after cs s).day ≡ first_price 0 (trades_in cs s)
  pub closes_at : close_price (after cs s).day ≡ last_price (after cs s).day.close (trades_in cs s)
  -- the screen is a fresh count over the book and all trades of the run
  pub screen :
      (after cs s).day.screen
      ≡ screen_of (after cs s).day (after cs s).book (highest (first_price 0 (trades_in cs s)) (trades_in cs s))
      (lowest (first_price 0 (trades_in cs s)) (trades_in cs s))
  pub screen_last : (after cs s).day.screen.last ≡ last_price 0 (trades_in cs s)
  pub screen_shares : (after cs s).day.screen.shares ≡ filled (trades_in cs s)
  pub screen_turnover : (after cs s).day.screen.turnover ≡ money (trades_in cs s)
  -- a cancel that is taken after it takes out an order that was accepted for that account
  pub cancels_own :
      (account number shares : ℕ)
      → (cancel_call (after cs s).day account number (after cs s).book).answer.reply ≡ CancelReply.TheVariants.Withdrawn shares
      → Some (λ (w : Owner). (w.number ≡ number) × (w.account ≡ account)) (accepted_in cs s)
