-- Chains of calls on a lent slice of order records. The caller lends the same records again, and hands in the day that the last event
-- handed back.
use Rattle.std.specs.Prelude.{ℕ, ◌≡◌, false, List}
use Rattle.model.specs.declared.Order.{Order}
use Rattle.model.specs.declared.Trade.{Trade}
use Rattle.model.specs.declared.Day.{Day}
use Rattle.model.specs.declared.Event as Event
use Rattle.model.specs.declared.OpenReply as OpenReply
use Rattle.model.specs.Session.{Desk}
use Rattle.demands.specs.Running.{is_opening}
use Rattle.demands.specs.Histories as histories
use Rattle.demands.specs.Histories.{AnyCall, Happens, Seen, Opened, Moved, Entered, Cancelled, Reported, Listed, trades_then}
use Rattle.demands.specs.Chains.{Gave, Door, Link, Chained, FromOpening}
use Rattle.lent.specs.declared.Answer as Answer
use Rattle.lent.specs.declared.Question as Question
use Rattle.lent.specs.declared.Told as Told
use Rattle.lent.specs.Calls.{EventPromise, QuestionPromise}

-- an event that is no opening, with the rows of the trade list; a report or a price list, with the list of prices
pub data Asks : Type 0 where
  Takes : (e : Event.Event) → is_opening e ≡ false → List Trade → Asks
  Report : List ℕ → Asks
  Prices : ℕ → List ℕ → Asks

abbrev pub Gives : Asks → Type 0
Gives (Takes e w trades) = Gave Answer.Answer (List Trade)
Gives (Report prices) = Gave Told.Told (List ℕ)
Gives (Prices asked prices) = Gave Told.Told (List ℕ)

-- the day that goes on
unfoldable pub day_then : Day → Answer.Answer → Day
day_then d (Answer.TheVariants.Open r) = d
day_then d (Answer.TheVariants.Clock a) = a.day
day_then d (Answer.TheVariants.Order a) = a.day
day_then d (Answer.TheVariants.Cancel a) = a.day

abbrev pub Promise : (a : Asks) → Desk → Gives a → Desk → Type 0
Promise (Takes e w trades) m g n =
    EventPromise m.book trades (record { day = m.day; event = e }) g.answer n.book g.list
    × (n.day ≡ day_then m.day g.answer)
Promise (Report prices) m g n =
    QuestionPromise m.book prices (Question.TheVariants.Report m.day) g.answer g.list × (n ≡ m)
Promise (Prices asked prices) m g n =
    QuestionPromise m.book prices (Question.TheVariants.List m.day asked) g.answer g.list × (n ≡ m)

abbrev pub call : Asks → AnyCall
call (Takes e w trades) = Happens (record { event = e; within = w; lent = trades })
call (Report prices) = histories.Reports
call (Prices asked prices) = histories.Lists asked prices

-- what is seen of an answer, and of what is told
unfoldable pub seen_in : Answer.Answer → List Trade → Seen
seen_in (Answer.TheVariants.Open r) trades = Opened r
seen_in (Answer.TheVariants.Clock a) trades = Moved a.reply a.made trades
seen_in (Answer.TheVariants.Order a) trades = Entered a.reply a.made trades
seen_in (Answer.TheVariants.Cancel a) trades = Cancelled a.reply

unfoldable pub told_in : Told.Told → List ℕ → Seen
told_in (Told.TheVariants.Report r) prices = Reported r
told_in (Told.TheVariants.List r) prices = Listed r prices

-- a report leaves the list of prices
abbrev pub Shows : (a : Asks) → Seen → Gives a → Type 0
Shows (Takes e w trades) x g =
    (x ≡ seen_in g.answer g.list) × (g.list ≡ trades_then x trades)
Shows (Report prices) x g = (x ≡ told_in g.answer g.list) × (g.list ≡ prices)
Shows (Prices asked prices) x g = x ≡ told_in g.answer g.list

abbrev pub door : Door
door =
    record { Memory = Desk; Asks = Asks; Gives = Gives; Promise = Promise; call = call; desk = λ m. m; Shows = Shows }

-- begun by an opening that is accepted, on any records and whatever day came with it
pub record RecordChains : Type 0 where
  pub chain :
      (before book : List Order) (trades trades' : List Trade) (old : Day) (close mark : ℕ) (d : Day)
      → EventPromise before trades (record { day = old; event = Event.TheVariants.Open close mark })
      (Answer.TheVariants.Open (OpenReply.TheVariants.Opened d))
      book
      trades'
      → (ls : List (Link door))
      → Chained door (record { day = d; book = book }) ls
      → FromOpening door (record { day = d; book = book }) ls
