-- Chains of calls on rows of memory. The caller lends the same rows again and hands in the day that the last call handed back.
use Rattle.model.specs.declared.Order as Orders
use Rattle.std.specs.Prelude.{ℕ, ◌≡◌, List}
use Rattle.model.specs.declared.Asked.{Asked}
use Rattle.model.specs.declared.Day.{Day}
use Rattle.model.specs.declared.OpenReply as OpenReply
use Rattle.model.specs.declared.ClockAnswer.{ClockAnswer}
use Rattle.model.specs.declared.OrderAnswer.{OrderAnswer}
use Rattle.model.specs.declared.CancelAnswer.{CancelAnswer}
use Rattle.model.specs.declared.ReportReply.{ReportReply}
use Rattle.model.specs.declared.ListReply.{ListReply}
use Rattle.demands.specs.Running.{moves_to, enters, cancels}
use Rattle.demands.specs.Histories as histories
use Rattle.demands.specs.Histories.{AnyCall, Happens, Seen, Moved, Entered, Cancelled, Reported, Listed}
use Rattle.demands.specs.Chains.{Gave, Door, Link, Chained, FromOpening}
use Rattle.day.specs.Promises.{OpenPromise, ClockPromise, OrderPromise, CancelPromise, ReportPromise, ListPromise}
use Rattle.model.specs.declared.Trade.{Trade}

pub record Memory : Type 0 where
  pub day : Day
  pub rows : List Orders.Order

-- a call, with the trade list or the price list that it is lent
pub data Asks : Type 0 where
  Clock : ℕ → List Trade → Asks
  Order : Asked → List Trade → Asks
  Cancel : ℕ → ℕ → Asks
  Report : Asks
  Prices : ℕ → List ℕ → Asks

abbrev pub Gives : Asks → Type 0
Gives (Clock t trades) = Gave ClockAnswer (List Trade)
Gives (Order a trades) = Gave OrderAnswer (List Trade)
Gives (Cancel account number) = CancelAnswer
Gives Report = ReportReply
Gives (Prices asked prices) = Gave ListReply (List ℕ)

-- the call's own promise, and which day goes on
abbrev pub Promise : (a : Asks) → Memory → Gives a → Memory → Type 0
Promise (Clock t trades) m g n =
    ClockPromise m.day m.rows trades t g.answer n.rows g.list × (n.day ≡ g.answer.day)
Promise (Order a trades) m g n =
    OrderPromise m.day m.rows trades a g.answer n.rows g.list × (n.day ≡ g.answer.day)
Promise (Cancel account number) m g n =
    CancelPromise m.day m.rows account number g n.rows × (n.day ≡ g.day)
Promise Report m g n = ReportPromise m.day m.rows g × (n ≡ m)
Promise (Prices asked prices) m g n = ListPromise m.day m.rows prices asked g.answer g.list × (n ≡ m)

abbrev pub call : Asks → AnyCall
call (Clock t trades) = Happens (moves_to t trades)
call (Order a trades) = Happens (enters a trades)
call (Cancel account number) = Happens (cancels account number)
call Report = histories.Reports
call (Prices asked prices) = histories.Lists asked prices

-- what is seen is what is given
abbrev pub Shows : (a : Asks) → Seen → Gives a → Type 0
Shows (Clock t trades) x g = x ≡ Moved g.answer.reply g.answer.made g.list
Shows (Order a trades) x g = x ≡ Entered g.answer.reply g.answer.made g.list
Shows (Cancel account number) x g = x ≡ Cancelled g.reply
Shows Report x g = x ≡ Reported g
Shows (Prices asked prices) x g = x ≡ Listed g.answer g.list

abbrev pub door : Door
door =
    record {
      Memory = Memory;
      Asks = Asks;
      Gives = Gives;
      Promise = Promise;
      call = call;
      desk = λ m. record { day = m.day; book = m.rows };
      Shows = Shows;
    }

-- begun by an opening that is accepted, on any rows
pub record RowChains : Type 0 where
  pub chain :
      (before rows : List Orders.Order) (close mark : ℕ) (d : Day)
      → OpenPromise before close mark (OpenReply.TheVariants.Opened d) rows
      → (ls : List (Link door))
      → Chained door (record { day = d; rows = rows }) ls
      → FromOpening door (record { day = d; rows = rows }) ls
