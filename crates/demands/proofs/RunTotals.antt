-- The day's totals after a run are those of all its trades. Assumes nothing.
use Prim.Native.Nat.{ℕ}
use mathlib.Core.Path.{◌≡◌, refl}
use mathlib.Core.Bool.{cond, false}
use mathlib.Core.List.{List, [], ◌∷◌}
use native.Mathlib.Omega.{arith}
use lib.Dec.{eqb}
use borrow.Author.Tests.{ne_eqb}
use Rattle.model.specs.Words.{Price, Sound}
use Rattle.model.specs.declared.Event as Event
use Rattle.model.specs.declared.Trade.{Trade}
use Rattle.model.specs.declared.Day.{Day}
use Rattle.model.specs.Matching.{last_price}
use Rattle.model.specs.Figures.{reference, close_price}
use Rattle.model.specs.Session.{Desk}
use Rattle.book.proofs.Lists.{each_append}
use Rattle.model.proofs.Bools.{not_both}
use Rattle.demands.specs.Totalling.{Totals}
use Rattle.demands.specs.Running.{is_opening, Call, trades_of_event, traded_by, stepped_by, stepped, after, trades_in}
use Rattle.demands.proofs.Totals.{Prices, totals_join, totals_none, order_totals, order_prices, cancel_totals, clock_totals, clock_prices}
use Rattle.demands.proofs.Answers.{event_sound}

pub event_prices :
    (e : Event.Event) → is_opening e ≡ false → (lent : List Trade) (s : Desk)
    → Sound s.day s.book
    → Prices (trades_of_event e lent s)
unfolding is_opening trades_of_event
event_prices (Event.TheVariants.Open close mark) o lent s k = tt
event_prices (Event.TheVariants.Clock t) o lent s k = clock_prices s.day s.book k t lent
event_prices (Event.TheVariants.Order a) o lent s k = order_prices s.day a s.book lent k
event_prices (Event.TheVariants.Cancel account number) o lent s k = tt

pub event_totals :
    (e : Event.Event) → is_opening e ≡ false → (lent : List Trade) (s : Desk)
    → Sound s.day s.book
    → Totals s.day (stepped_by e lent s).day (trades_of_event e lent s)
unfolding is_opening trades_of_event stepped_by
event_totals (Event.TheVariants.Open close mark) o lent s k = absurd (not_both refl o)
event_totals (Event.TheVariants.Clock t) o lent s k = clock_totals s.day s.book k t lent
event_totals (Event.TheVariants.Order a) o lent s k = order_totals s.day a s.book lent
event_totals (Event.TheVariants.Cancel account number) o lent s k = cancel_totals s.day account number s.book

pub run_prices : (es : List Call) (s : Desk) → Sound s.day s.book → Prices (trades_in es s)
unfolding trades_in
run_prices [] s k = tt
run_prices (e ∷ es) s k =
    each_append (λ (t : Trade). Price t.price) (traded_by e s) (trades_in es (stepped e s)) (event_prices e.event e.within e.lent s k)
    (run_prices es (stepped e s) (event_sound e.event e.within e.lent s k))

pub run_totals : (es : List Call) (s : Desk) → Sound s.day s.book → Totals s.day (after es s).day (trades_in es s)
unfolding trades_in after
run_totals [] s k = totals_none s.day
run_totals (e ∷ es) s k =
    totals_join s.day (stepped e s).day (after es (stepped e s)).day (traded_by e s) (trades_in es (stepped e s))
    (event_prices e.event e.within e.lent s k) (event_totals e.event e.within e.lent s k) (run_totals es (stepped e s) (event_sound e.event e.within e.lent s k))

-- ---- the close

last_price_lem : (p : ℕ) (ts : List Trade) → Price p → Prices ts → Price (last_price p ts)
unfolding last_price
last_price_lem p [] h k = h
last_price_lem p (t ∷ ts) h k = last_price_lem t.price ts k.0 k.1

pub close_is : (d : Day) (ts : List Trade) → Prices ts → d.last ≡ last_price 0 ts → close_price d ≡ last_price d.close ts
unfolding close_price reference
close_is d ts h e = rw e (go ts h)
  where
    go : (ts : List Trade) → Prices ts → cond (eqb (last_price 0 ts) 0) d.close (last_price 0 ts) ≡ last_price d.close ts
    go [] h = unfold last_price in refl
    go (t ∷ ts) h = unfold last_price in rw (ne_eqb (last_price t.price ts) 0 (λ z. omega (arith, (last_price_lem t.price ts h.0 h.1).low)))
