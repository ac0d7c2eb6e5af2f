-- The numbers of accepted orders: an event issues the next one or none, and no event changes the count otherwise.
-- Assumes nothing.
use Prim.Native.Nat.{ℕ, suc, ◌+◌}
use mathlib.Core.Path.{◌≡◌, refl, ◌∙◌}
use mathlib.Core.Bool.{false}
use mathlib.Core.List.{List, [], ◌∷◌, ◌++◌, map}
use native.Mathlib.Omega.{arith}
use lib.ListN.{length, length-append}
use Rattle.model.specs.declared.Trade.{Trade}
use Rattle.model.specs.declared.Event as Event
use Rattle.model.specs.declared.Order.{Order}
use Rattle.model.specs.declared.Day.{Day}
use Rattle.model.specs.Lists.{from}
use Rattle.model.specs.Clock.{passed}
use Rattle.model.specs.Figures.{at, next_number, issue, tally}
use Rattle.model.specs.Entry.{entry_trades}
use Rattle.model.specs.Screen.{update}
use Rattle.model.specs.Calls.{entered}
use Rattle.model.specs.ClockCall.{Held, auction, lapse, pass, start, moved}
use Rattle.model.specs.Session.{Desk}
use Rattle.model.proofs.Bools.{not_both}
use Rattle.model.proofs.Seconds.{pass_cases, through_keeps}
use Rattle.demands.specs.Running.{
  is_opening,
  Call,
  Owner,
  owners_by,
  accepted_by,
  accepted,
  stepped_by,
  stepped,
  after,
  accepted_in,
}
use Rattle.demands.proofs.SameFigures.{same_fired, same_resumed}
use Rattle.demands.proofs.Cases.{order_cases, cancel_cases, clock_cases}

abbrev pub numbers : List Owner → List ℕ
numbers ws = map (λ (w : Owner). w.number) ws

-- these owners have the numbers behind n, and are counted up to m
pub record Counts (n m : ℕ) (ws : List Owner) : Type 0 where
  pub order : numbers ws ≡ from (suc n) (length ws)
  pub count : m ≡ n + length ws

-- ---- a move of the clock issues none

pass_issued : (n s : ℕ) (h : Held) → h.day.issued ≡ n → (pass s h).day.issued ≡ n
unfolding lapse auction tally
pass_issued n s h e =
    pass_cases (λ k. k.day.issued ≡ n) s h (λ _. e) (λ _. (same_resumed s h).issued ∙ e) (λ _. e) (λ _ _ _. e)

pub moved_issued : (d : Day) (t : ℕ) (book : List Order) → (moved d t book).day.issued ≡ d.issued
unfolding moved start
moved_issued d t book = through_keeps (λ k. k.day.issued ≡ d.issued) (pass_issued d.issued) (passed d.time t) (start d book) refl

pub counts_none : (n m : ℕ) → m ≡ n → Counts n m []
unfolding from
counts_none n m e = record { order = refl; count = omega arith }

-- ---- an event

pub event_counts :
    (e : Event.Event) → is_opening e ≡ false → (lent : List Trade) (s : Desk)
    → Counts s.day.issued (stepped_by e lent s).day.issued (accepted_by e lent s)
unfolding is_opening stepped_by accepted_by owners_by entered from tally issue next_number at update
event_counts (Event.TheVariants.Open close mark) o lent s = absurd (not_both refl o)
event_counts (Event.TheVariants.Clock t) o lent s =
    clock_cases s.day t s.book lent (λ o. Counts s.day.issued o.answer.day.issued [])
    (λ _. counts_none s.day.issued (moved s.day t s.book).day.issued (moved_issued s.day t s.book))
    (λ _. counts_none s.day.issued s.day.issued refl)
event_counts (Event.TheVariants.Order a) o lent s =
    order_cases s.day a s.book lent (λ o. Counts s.day.issued o.answer.day.issued (owners_by a o.answer.reply))
    (λ _.
    record { order = refl; count = omega (arith, (same_fired s.day.time (entry_trades s.day a s.book) (tally (entry_trades s.day a s.book) (issue s.day))).issued) })
    (λ _. counts_none s.day.issued s.day.issued refl)
event_counts (Event.TheVariants.Cancel account number) o lent s =
    cancel_cases s.day account number s.book (λ o. Counts s.day.issued o.answer.day.issued [])
    (λ _. counts_none s.day.issued s.day.issued refl)
    (λ _. counts_none s.day.issued s.day.issued refl)

-- ---- a run

join :
    (n m : ℕ) (ws vs : List Owner)
    → numbers ws ≡ from (suc n) (length ws)
    → m ≡ n + length ws
    → numbers vs ≡ from (suc m) (length vs)
    → numbers (ws ++ vs) ≡ from (suc n) (length (ws ++ vs))
unfolding from
join n m [] vs e c f = let z : m ≡ n = omega arith in rw (← z) f
join n m (w ∷ ws) vs e c f =
    let h : w.number ≡ suc n = cc in
    let t : numbers ws ≡ from (suc (suc n)) (length ws) = cc in
    rw (h, join (suc n) m ws vs t (omega arith) f)

pub counts_join : (n m k : ℕ) (ws vs : List Owner) → Counts n m ws → Counts m k vs → Counts n k (ws ++ vs)
counts_join n m k ws vs c r =
    record {
      order = join n m ws vs c.order c.count r.order;
      count = omega (arith, c.count, r.count, length-append ws vs);
    }

pub run_counts : (es : List Call) (s : Desk) → Counts s.day.issued (after es s).day.issued (accepted_in es s)
unfolding after accepted_in
run_counts [] s = counts_none s.day.issued s.day.issued refl
run_counts (e ∷ es) s =
    counts_join s.day.issued (stepped e s).day.issued (after es (stepped e s)).day.issued (accepted e s) (accepted_in es (stepped e s))
    (event_counts e.event e.within e.lent s) (run_counts es (stepped e s))
