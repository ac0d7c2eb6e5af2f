-- The calls on order records keep step with the definitions. Assumes nothing.
use Prim.Native.Nat.{ℕ}
use mathlib.Core.Path.{◌≡◌, refl, sym, ap, ◌∙◌}
use mathlib.Core.Bool.{false}
use mathlib.Core.List.{List}
use Rattle.model.specs.declared.Order.{Order}
use Rattle.model.specs.declared.Day.{Day}
use Rattle.model.specs.declared.Event as Event
use Rattle.model.specs.declared.OpenReply as OpenReply
use Rattle.model.specs.Calls.{Outcome}
use Rattle.model.specs.Session.{Desk}
use Rattle.model.proofs.Bools.{not_both}
use Rattle.demands.specs.Running.{is_opening, Fresh}
use Rattle.demands.specs.Histories.{trades_then, present, event_seen, seen, event_desk, stepped}
use Rattle.demands.specs.Chains.{KeepsStep}
use Rattle.demands.proofs.Chains.{from_opening}
use Rattle.lent.specs.declared.Answer as Answer
use Rattle.lent.specs.Calls.{call_of, EventPromise, View, question_call}
use Rattle.chains.specs.Records.{Asks, Takes, Report, Prices, Gives, day_then, Promise, call, seen_in, told_in, Shows, door, RecordChains}
use Rattle.model.specs.declared.Trade.{Trade}

-- what an event leaves by the definitions is what is seen of it, and the desk then
event_seen_lem :
    (e : Event.Event) (trades : List Trade) (m : Desk)
    → event_seen present e trades m
    ≡ seen_in (call_of e m.day m.book trades).answer (call_of e m.day m.book trades).trades
unfolding event_seen present seen_in call_of
event_seen_lem (Event.TheVariants.Open close mark) trades m = refl
event_seen_lem (Event.TheVariants.Clock t) trades m = refl
event_seen_lem (Event.TheVariants.Order a) trades m = refl
event_seen_lem (Event.TheVariants.Cancel account number) trades m = refl

event_list :
    (e : Event.Event) (trades : List Trade) (m : Desk)
    → (call_of e m.day m.book trades).trades
    ≡ trades_then (event_seen present e trades m) trades
unfolding event_seen present trades_then call_of
event_list (Event.TheVariants.Open close mark) trades m = refl
event_list (Event.TheVariants.Clock t) trades m = refl
event_list (Event.TheVariants.Order a) trades m = refl
event_list (Event.TheVariants.Cancel account number) trades m = refl

event_desk_lem :
    (e : Event.Event) → is_opening e ≡ false → (trades : List Trade) (m : Desk)
    → record {
      day = day_then m.day (call_of e m.day m.book trades).answer;
      book = (call_of e m.day m.book trades).book;
    }
    ≡ event_desk present e trades m
unfolding event_desk present day_then call_of is_opening
event_desk_lem (Event.TheVariants.Open close mark) w trades m = absurd (not_both refl w)
event_desk_lem (Event.TheVariants.Clock t) w trades m = refl
event_desk_lem (Event.TheVariants.Order a) w trades m = refl
event_desk_lem (Event.TheVariants.Cancel account number) w trades m = refl

shows : (a : Asks) (m : Desk) (g : Gives a) (n : Desk) → Promise a m g n → Shows a (seen present (call a) m) g
unfolding seen present question_call told_in
shows (Takes e w trades) m g n (p, d) = (
  event_seen_lem e trades m ∙ ap (λ (o : Outcome Answer.Answer). seen_in o.answer o.trades) (sym p),
  ap (λ (o : Outcome Answer.Answer). o.trades) p ∙ event_list e trades m,
)
shows (Report prices) m g n (p, d) = (ap (λ (v : View). told_in v.told v.prices) (sym p), ap (λ (v : View). v.prices) p)
shows (Prices asked prices) m g n (p, d) = ap (λ (v : View). told_in v.told v.prices) (sym p)

leaves : (a : Asks) (m : Desk) (g : Gives a) (n : Desk) → Promise a m g n → n ≡ stepped present (call a) m
unfolding stepped
leaves (Takes e w trades) m g n (p, d) =
    ap (λ (x : Day). record { day = x; book = n.book }) d
    ∙ ap (λ (o : Outcome Answer.Answer). record { day = day_then m.day o.answer; book = o.book }) p
    ∙ event_desk_lem e w trades m
leaves (Report prices) m g n (p, d) = d
leaves (Prices asked prices) m g n (p, d) = d

keeps_step : KeepsStep door (λ _. Unit {0})
keeps_step =
    record {
      shows = λ a m g n h s p. shows a m g n p;
      leaves = λ a m g n h s p. leaves a m g n p;
      holds = λ a m g n h s p. tt;
    }

-- what an answer tells of an opening, where it is one
opened : Answer.Answer → OpenReply.OpenReply
opened (Answer.TheVariants.Open r) = r
opened (Answer.TheVariants.Clock a) = OpenReply.TheVariants.Refused 0
opened (Answer.TheVariants.Order a) = OpenReply.TheVariants.Refused 0
opened (Answer.TheVariants.Cancel r) = OpenReply.TheVariants.Refused 0

fresh :
    (before book : List Order) (trades trades' : List Trade) (old : Day) (close mark : ℕ) (d : Day)
    → EventPromise before trades (record { day = old; event = Event.TheVariants.Open close mark })
    (Answer.TheVariants.Open (OpenReply.TheVariants.Opened d))
    book
    trades'
    → Fresh (record { day = d; book = book })
unfolding call_of opened
fresh before book trades trades' old close mark d p =
    record {
      close = close;
      mark = mark;
      places = before;
      opened = ap (λ (o : Outcome Answer.Answer). opened o.answer) (sym p);
      book = ap (λ (o : Outcome Answer.Answer). o.book) (sym p);
    }

pub record_chains : RecordChains
record_chains =
    record {
      chain =
          λ before book trades trades' old close mark d p ls c.
          from_opening door (λ _. Unit {0}) keeps_step (record { day = d; book = book }) tt
          (fresh before book trades trades' old close mark d p)
          ls
          c;
    }
