-- The calls on rows keep step with the definitions. Assumes nothing.
use Prim.Native.Nat.{ℕ}
use mathlib.Core.Path.{◌≡◌, sym, ap, ◌∙◌}
use mathlib.Core.List.{List}
use Rattle.model.specs.declared.Order as Orders
use Rattle.model.specs.declared.Day.{Day}
use Rattle.model.specs.declared.OpenReply as OpenReply
use Rattle.model.specs.declared.ClockAnswer.{ClockAnswer}
use Rattle.model.specs.declared.OrderAnswer.{OrderAnswer}
use Rattle.model.specs.Calls.{Outcome, OpenOutcome, CancelOutcome}
use Rattle.model.specs.AuctionCalls.{ListOutcome}
use Rattle.demands.specs.Running.{moves_to, enters, cancels, Fresh}
use Rattle.demands.specs.Histories.{Moved, Entered, Cancelled, Reported, Listed, present, event_seen, seen, event_desk, stepped}
use Rattle.demands.specs.Chains.{KeepsStep}
use Rattle.demands.proofs.Chains.{from_opening}
use Rattle.day.specs.Promises.{OpenPromise}
use Rattle.chains.specs.Rows.{Memory, Asks, Clock, Order, Cancel, Report, Prices, Gives, Promise, call, Shows, door, RowChains}

shows : (a : Asks) (m : Memory) (g : Gives a) (n : Memory) → Promise a m g n → Shows a (seen present (call a) (door.desk m)) g
unfolding seen event_seen present moves_to enters cancels
shows (Clock t trades) m g n (p, d) =
    ap (λ (o : Outcome ClockAnswer). Moved o.answer.reply o.answer.made o.trades) (sym p)
shows (Order a trades) m g n (p, d) =
    ap (λ (o : Outcome OrderAnswer). Entered o.answer.reply o.answer.made o.trades) (sym p)
shows (Cancel account number) m g n (p, d) = ap (λ (o : CancelOutcome). Cancelled o.answer.reply) (sym p)
shows Report m g n (p, d) = ap Reported (sym p)
shows (Prices asked prices) m g n (p, d) = ap (λ (o : ListOutcome). Listed o.reply o.prices) (sym p)

leaves : (a : Asks) (m : Memory) (g : Gives a) (n : Memory) → Promise a m g n → door.desk n ≡ stepped present (call a) (door.desk m)
unfolding stepped event_desk present moves_to enters cancels
leaves (Clock t trades) m g n (p, d) =
    ap (λ (x : Day). record { day = x; book = n.rows }) d
    ∙ ap (λ (o : Outcome ClockAnswer). record { day = o.answer.day; book = o.book }) p
leaves (Order a trades) m g n (p, d) =
    ap (λ (x : Day). record { day = x; book = n.rows }) d
    ∙ ap (λ (o : Outcome OrderAnswer). record { day = o.answer.day; book = o.book }) p
leaves (Cancel account number) m g n (p, d) =
    ap (λ (x : Day). record { day = x; book = n.rows }) d
    ∙ ap (λ (o : CancelOutcome). record { day = o.answer.day; book = o.book }) p
leaves Report m g n (p, d) = ap (λ (x : Memory). record { day = x.day; book = x.rows }) d
leaves (Prices asked prices) m g n (p, d) = ap (λ (x : Memory). record { day = x.day; book = x.rows }) d

keeps_step : KeepsStep door (λ _. Unit {0})
keeps_step =
    record {
      shows = λ a m g n h s p. shows a m g n p;
      leaves = λ a m g n h s p. leaves a m g n p;
      holds = λ a m g n h s p. tt;
    }

fresh :
    (before rows : List Orders.Order) (close mark : ℕ) (d : Day)
    → OpenPromise before close mark (OpenReply.TheVariants.Opened d) rows
    → Fresh (record { day = d; book = rows })
fresh before rows close mark d p =
    record {
      close = close;
      mark = mark;
      places = before;
      opened = ap (λ (o : OpenOutcome). o.reply) (sym p);
      book = ap (λ (o : OpenOutcome). o.book) (sym p);
    }

pub row_chains : RowChains
row_chains =
    record {
      chain =
          λ before rows close mark d p ls c.
          from_opening door (λ _. Unit {0}) keeps_step (record { day = d; rows = rows }) tt (fresh before rows close mark d p) ls c;
    }
