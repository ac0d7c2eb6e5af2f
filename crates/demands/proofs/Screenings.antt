-- The screen after each accepted event is the fresh count over the day and the book that the event leaves. Assumes nothing.
use Prim.Native.Nat.{ℕ}
use mathlib.Core.Path.{◌≡◌, refl, ap, subst}
use mathlib.Core.Logic.{◌⊎◌, inl, inr}
use mathlib.Core.List.{List, []}
use native.Mathlib.Omega.{arith}
use lib.ListN.{length, take, drop}
use lib.Seq.{take_at}
use Rattle.model.specs.declared.Order.{Order}
use Rattle.model.specs.declared.Asked.{Asked}
use Rattle.model.specs.declared.Trade.{Trade}
use Rattle.model.specs.declared.Screen.{Screen}
use Rattle.model.specs.declared.Day.{Day}
use Rattle.model.specs.declared.OrderReply as OrderReply
use Rattle.model.specs.declared.OrderAnswer.{OrderAnswer}
use Rattle.model.specs.declared.CancelReply as CancelReply
use Rattle.model.specs.declared.ClockReply as ClockReply
use Rattle.model.specs.declared.ClockAnswer.{ClockAnswer}
use Rattle.model.specs.Figures.{at, issue, tally}
use Rattle.model.specs.Halts.{fired}
use Rattle.model.specs.Screen.{screen_of, high_with, low_with, update}
use Rattle.model.specs.Entry.{entry_trades}
use Rattle.model.specs.Calls.{Outcome, CancelOutcome, written, entered, order_call, cancel_call}
use Rattle.model.specs.ClockCall.{Held, moved, clock_call}
use Rattle.demands.specs.Screening.{Counted, Screening}
use Rattle.demands.proofs.Cases.{is_moved, order_cases, cancel_cases, clock_cases}
use Rattle.demands.proofs.SameFigures.{entered_screen, moved_screen}
use Rattle.demands.proofs.Fresh.{open_screen}
use Rattle.demands.proofs.Screened.{update_counted}

-- where the day still had the screen from before the event
pub updated_counted :
    (d e : Day) (ts : List Trade) (book : List Order) → e.screen ≡ d.screen → Counted d ts (update ts book e) book
updated_counted d e ts book same =
    subst (λ (s : Screen). (update ts book e).screen ≡ screen_of (update ts book e) book (high_with ts s) (low_with ts s)) same
    (update_counted ts book e)

cancelled_counted : (d : Day) (book : List Order) → Counted d [] (update [] book d) book
cancelled_counted d book = updated_counted d d [] book refl

entered_counted :
    (d : Day) (a : Asked) (book : List Order) (lent : List Trade)
    → let o : Outcome OrderAnswer = entered d a book lent in
    Counted d (take o.answer.made o.trades) o.answer.day o.book
unfolding entered written
entered_counted d a book lent =
    let ts = entry_trades d a book in
    rw (take_at ts (drop (length ts) lent) (length ts) refl)
    (updated_counted d (fired d.time ts (tally ts (issue d))) ts _ (entered_screen d ts))

moved_counted :
    (d : Day) (t : ℕ) (book : List Order) (lent : List Trade)
    → let h : Held = moved d t book in
    Counted d (take (length h.trades) (written h.trades lent)) (update h.trades h.book (at t h.day)) h.book
unfolding written at
moved_counted d t book lent =
    let h = moved d t book in
    rw (take_at h.trades (drop (length h.trades) lent) (length h.trades) refl)
    (updated_counted d (at t h.day) h.trades h.book (moved_screen d t book))

pub screening : Screening
screening =
    record {
      opening = open_screen;
      order = λ d a book lent e.
          order_cases d a book lent
          (λ o. o.answer.reply ≡ OrderReply.TheVariants.Accepted e → Counted d (take o.answer.made o.trades) o.answer.day o.book)
          (λ _ _. entered_counted d a book lent)
          (λ _ r. let z : ◌≡◌ {A = ℕ} 0 1 = cc in absurd (omega arith));
      cancel = λ d account number shares book.
          cancel_cases d account number book
          (λ o. o.answer.reply ≡ CancelReply.TheVariants.Withdrawn shares → Counted d [] o.answer.day o.book)
          (λ _ _. cancelled_counted d _)
          (λ _ r. let z : ◌≡◌ {A = ℕ} 0 1 = cc in absurd (omega arith));
      clock = λ d t book lent phase trades.
          clock_cases d t book lent
          (λ o. o.answer.reply ≡ ClockReply.TheVariants.Moved phase trades → Counted d (take o.answer.made o.trades) o.answer.day o.book)
          (λ _ _. moved_counted d t book lent)
          (λ _ r. let z : ◌≡◌ {A = ℕ} 0 1 = ap is_moved r in absurd (omega arith));
    }

-- ---- whether an event is accepted or not

-- counted, or as it was, and then without a trade
abbrev pub Follows : Day → List Trade → Day → List Order → Type 0
Follows d ts e book = Counted d ts e book ⊎ ((e ≡ d) × (ts ≡ []))

pub order_follows :
    (d : Day) (a : Asked) (book : List Order) (lent : List Trade)
    → let o : Outcome OrderAnswer = order_call d a book lent in
    Follows d (take o.answer.made o.trades) o.answer.day o.book
order_follows d a book lent =
    order_cases d a book lent (λ o. Follows d (take o.answer.made o.trades) o.answer.day o.book)
    (λ _. inl (entered_counted d a book lent))
    (λ _. inr (refl, refl))

pub cancel_follows :
    (d : Day) (account number : ℕ) (book : List Order)
    → let o : CancelOutcome = cancel_call d account number book in Follows d [] o.answer.day o.book
cancel_follows d account number book =
    cancel_cases d account number book (λ o. Follows d [] o.answer.day o.book) (λ _. inl (cancelled_counted d _)) (λ _. inr (refl, refl))

pub clock_follows :
    (d : Day) (t : ℕ) (book : List Order) (lent : List Trade)
    → let o : Outcome ClockAnswer = clock_call d t book lent in
    Follows d (take o.answer.made o.trades) o.answer.day o.book
clock_follows d t book lent =
    clock_cases d t book lent (λ o. Follows d (take o.answer.made o.trades) o.answer.day o.book)
    (λ _. inl (moved_counted d t book lent))
    (λ _. inr (refl, refl))
