-- One line in any memory: when the memory fits, when 15 is due, and what is left then. Assumes nothing.
use Rattle.model.specs.declared.Order as Orders
use Prim.Native.Nat.{ℕ, ◌≤◌}
use mathlib.Core.Path.{◌≡◌, refl, sym, ap}
use mathlib.Core.Bool.{Bool, true, false, not, ◌&&◌}
use mathlib.Core.List.{List}
use mathlib.Core.Option.{none, some}
use lib.Dec.{eqb, leb}
use lib.ListN.{length}
use borrow.Author.Tests.{eq-eqb, ne_eqb, eqb-true, leb-true}
use Rattle.model.specs.declared.Asked.{Asked}
use Rattle.model.specs.declared.Trade.{Trade}
use Rattle.model.specs.declared.Day.{Day}
use Rattle.model.specs.declared.Command.{Command}
use Rattle.model.specs.declared.Command.TheVariants.{Malformed, Asks}
use Rattle.model.specs.declared.Event.TheVariants.{Open, Clock, Order, Cancel}
use Rattle.model.specs.declared.OrderReply as OrderReply
use Rattle.model.specs.declared.ClockReply as ClockReply
use Rattle.model.specs.Sound.{has_places, sound}
use Rattle.model.specs.Refusals.{unsound}
use Rattle.model.specs.declared.OrderAnswer.{OrderAnswer}
use Rattle.model.specs.declared.ClockAnswer.{ClockAnswer}
use Rattle.model.specs.Calls.{Outcome, order_rules, order_call, cancel_rules, cancel_call}
use Rattle.model.specs.ClockCall.{clock_rules, clock_call}
use Rattle.model.specs.Replies.{clock_numbers, order_numbers, cancel_numbers}
use Rattle.model.specs.Lines.{refusal_line, trade_lines, reply_line, clock_line, order_line, with_number, cancel_line}
use Rattle.model.specs.Session as Session
use Rattle.model.specs.Session.{Desk, clock_answer, order_answer, cancel_answer, on_desk, event_answer, answer, lent_trades}
use Rattle.model.proofs.Bools.{not_both, and_left, and_right, and_no, and_yes}
use Rattle.model.proofs.Rules.{hit}
use Rattle.book.specs.Promises.{cancel_refused}
use Rattle.printing.specs.Printing.{Wrote}
use Rattle.desk.proofs.Lent.{answered}
use Rattle.printing.proofs.Printed.{line_within}
use Rattle.printing.proofs.Replied.{refusal_fits}
use Rattle.desk.specs.declared.Desk as Desk
use Rattle.desk.specs.declared.Answered.{Answered}
use Rattle.desk.specs.Desks.{desk_of, asks_day, asks_unsound, Leaves, Answering}
use Rattle.lines.specs.OneLine.{fits}
use Rattle.desk.proofs.Answers.{leaves}

-- ---- the memory

module _ (places trades output : ℕ) where
  pub other_places : (places ≡ 1_024 → ⊥) → eqb places 1_024 ≡ fits places trades output
  unfolding fits
  other_places n = rw (ne_eqb places 1_024 n)

  pub other_trades : places ≡ 1_024 → (trades ≡ 2_048 → ⊥) → eqb trades 2_048 ≡ fits places trades output
  unfolding fits
  other_trades e n = rw (eq-eqb places 1_024 e, ne_eqb trades 2_048 n)

  pub by_output : places ≡ 1_024 → trades ≡ 2_048 → leb 262_254 output ≡ fits places trades output
  unfolding fits
  by_output e f = rw (eq-eqb places 1_024 e, eq-eqb trades 2_048 f)

  pub fitting : fits places trades output ≡ true → (places ≡ 1_024) × (trades ≡ 2_048) × (262_254 ≤ output)
  unfolding fits
  fitting e =
      let r = and_right (eqb places 1_024) _ e in (
        eqb-true places 1_024 (and_left (eqb places 1_024) _ e),
        eqb-true trades 2_048 (and_left (eqb trades 2_048) (leb 262_254 output) r),
        leb-true 262_254 output (and_right (eqb trades 2_048) (leb 262_254 output) r),
      )

-- ---- whether 15 is due

module _ (c : Command) (k : Desk.Desk) (rows : List Orders.Order) where
  pub asks_nothing : asks_day c ≡ false → false ≡ asks_unsound c (desk_of k rows)
  unfolding asks_unsound
  asks_nothing e = and_no _ e

  pub asks_none : asks_day c ≡ true → k ≡ Desk.TheVariants.Closed → false ≡ asks_unsound c (desk_of k rows)
  unfolding asks_unsound
  asks_none e f = and_yes _ e (rw f)

  pub asks_it :
      {d : Day} {s : Bool}
      → asks_day c ≡ true
      → k ≡ Desk.TheVariants.Open d
      → s ≡ (has_places rows && sound d rows)
      → not s ≡ asks_unsound c (desk_of k rows)
  unfolding asks_unsound unsound
  asks_it e f g = and_yes _ e (rw f (ap not g))

-- ---- what is left then

module _ (s : Desk) (u : unsound s.day s.book ≡ true) where
  clock_15 :
      (t : ℕ) (lent : List Trade)
      → clock_call s.day t s.book lent
      ≡ record { answer = record { reply = ClockReply.TheVariants.Refused 15; made = 0; day = s.day }; book = s.book; trades = lent }
  unfolding clock_call clock_rules
  clock_15 t lent = rw (hit 15 _ u)

  order_15 :
      (a : Asked) (lent : List Trade)
      → order_call s.day a s.book lent
      ≡ record { answer = record { reply = OrderReply.TheVariants.Refused 15; made = 0; day = s.day }; book = s.book; trades = lent }
  unfolding order_call order_rules
  order_15 a lent = rw (hit 15 _ u)

  cancel_15 :
      (account number : ℕ)
      → cancel_call s.day account number s.book ≡ record { answer = cancel_refused s.day 15; book = s.book }
  unfolding cancel_call cancel_rules
  cancel_15 account number = rw (hit 15 _ u)

  clock_said : (t : ℕ) → clock_answer t s ≡ answered (refusal_line 15) (some s)
  unfolding clock_answer trade_lines clock_line clock_numbers reply_line
  clock_said t = rw (clock_15 t lent_trades)

  order_said : (a : Asked) → order_answer a s ≡ answered (refusal_line 15) (some s)
  unfolding order_answer trade_lines order_line order_numbers reply_line
  order_said a = rw (order_15 a lent_trades)

  cancel_said : (account number : ℕ) → cancel_answer account number s ≡ answered (refusal_line 15) (some s)
  unfolding cancel_answer cancel_line cancel_numbers with_number reply_line
  cancel_said account number = rw (cancel_15 account number)

-- it is not due where no day is open
none_due : (c : Command) → asks_unsound c none ≡ true → ⊥
unfolding asks_unsound
none_due c u = not_both (and_right (asks_day c) false u) refl

-- the desk stays, and so does all memory but the text
module _ (rows : List Orders.Order) (trades : List Trade) {out out' : List ℕ} (r : Answered) (h : 110 ≤ length out) (w : Wrote out 0 (refusal_line 15) out' r.next) where
  module _ (d : Day) (e : r.desk ≡ Desk.TheVariants.Open d) where
    abbrev s : Desk
    s = record { day = d; book = rows }

    stays : {a : Session.Answered} → a ≡ answered (refusal_line 15) (some s) → Leaves a rows out 0 rows out' r
    stays g = leaves g w (line_within w (refusal_fits 15) h) (rw e) (λ _. refl)

    on_open : (c : Command) → asks_unsound c (some s) ≡ true → Answering c (Desk.TheVariants.Open d) rows trades out 0 rows trades out' r
    unfolding answer event_answer on_desk asks_unsound asks_day
    on_open Malformed u = absurd (not_both u refl)
    on_open (Asks (Open close mark)) u = absurd (not_both u refl)
    on_open (Asks (Clock t)) u = record {
      leaves = stays (clock_said s u t);
      list = sym (ap (λ (o : Outcome ClockAnswer). o.trades) (clock_15 s u t trades));
    }
    on_open (Asks (Order a)) u = record {
      leaves = stays (order_said s u a);
      list = sym (ap (λ (o : Outcome OrderAnswer). o.trades) (order_15 s u a trades));
    }
    on_open (Asks (Cancel account number)) u = record { leaves = stays (cancel_said s u account number); list = refl }

  pub refused_15 :
      (k : Desk.Desk) (c : Command)
      → r.desk ≡ k
      → asks_unsound c (desk_of k rows) ≡ true
      → Answering c k rows trades out 0 rows trades out' r
  refused_15 Desk.TheVariants.Closed c e u = absurd (none_due c u)
  refused_15 (Desk.TheVariants.Open d) c e u = on_open d e c u
