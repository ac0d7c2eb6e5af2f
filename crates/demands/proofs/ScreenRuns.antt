-- The screen's last, high and low after a run are those of all its trades. Assumes nothing.
use Prim.Native.Nat.{ℕ}
use mathlib.Core.Path.{◌≡◌, refl, sym, ap, ◌∙◌}
use mathlib.Core.Logic.{⊎_elim}
use mathlib.Core.Bool.{Bool, true, false, cond}
use mathlib.Core.List.{List, [], ◌∷◌, ◌++◌}
use native.Mathlib.Omega.{arith}
use lib.Dec.{eqb}
use borrow.Author.Tests.{eqb-true, eqb-false, ne_eqb}
use Rattle.model.specs.declared.Trade.{Trade}
use Rattle.model.specs.declared.Event as Event
use Rattle.model.specs.declared.Order.{Order}
use Rattle.model.specs.declared.Screen.{Screen}
use Rattle.model.specs.declared.Day.{Day}
use Rattle.model.specs.Matching.{first_price, last_price, highest, lowest}
use Rattle.model.specs.Screen.{screen_of, high_with, low_with}
use Rattle.model.specs.Session.{Desk}
use Rattle.model.specs.Words.{Sound}
use Rattle.model.proofs.Bools.{not_both}
use Rattle.soundness.proofs.SoundDays.{sound_day}
use Rattle.demands.specs.Totalling.{Totals}
use Rattle.demands.specs.Screening.{Counted}
use Rattle.demands.specs.Running.{is_opening, Call, trades_of_event, traded_by, stepped_by, stepped, after, trades_in}
use Rattle.demands.proofs.Wholes.{Traded, whole_of}
use Rattle.demands.proofs.Extremes.{highest_append, lowest_append}
use Rattle.demands.proofs.Screened.{Shown, sound_shown}
use Rattle.demands.proofs.Screenings.{Follows, order_follows, cancel_follows, clock_follows}
use Rattle.demands.proofs.Totals.{Prices, last_append}
use Rattle.demands.proofs.Answers.{event_sound}
use Rattle.demands.proofs.RunTotals.{event_prices, event_totals}

-- ---- trades behind others, for the highest and the lowest alike

last_some : (p : ℕ) (ts : List Trade) → (p ≡ 0 → ⊥) → Prices ts → last_price p ts ≡ 0 → ⊥
unfolding last_price
last_some p [] n h = n
last_some p (t ∷ ts) n h = last_some t.price ts (λ z. omega (arith, z, h.0.low)) h.1

module _ (most : ℕ → List Trade → ℕ) (most-append : (p : ℕ) (ts us : List Trade) → most p (ts ++ us) ≡ most (most p ts) us) where
  -- with these trades, from the last price and this extreme on
  abbrev onward : ℕ → ℕ → List Trade → ℕ
  onward last from ts = most (cond (eqb last 0) (first_price 0 ts) from) ts

  onward_append :
      (last from : ℕ) (ts us : List Trade)
      → Prices ts
      → onward (last_price last ts) (onward last from ts) us ≡ onward last from (ts ++ us)
  unfolding last_price first_price
  onward_append last from ts us h = go (eqb last 0) refl ts h
    where
      go :
          (b : Bool)
          → eqb last 0 ≡ b
          → (ts : List Trade)
          → Prices ts
          → onward (last_price last ts) (most (cond b (first_price 0 ts) from) ts) us ≡ most (cond b (first_price 0 (ts ++ us)) from) (ts ++ us)
      go true e [] h = rw e
      go true e (t ∷ ts) h =
          rw (ne_eqb (last_price t.price ts) 0 (last_some t.price ts (λ z. omega (arith, z, h.0.low)) h.1))
          (sym (most-append t.price (t ∷ ts) us))
      go false e ts h =
          rw (ne_eqb (last_price last ts) 0 (last_some last ts (eqb-false last 0 e) h)) (sym (most-append from ts us))

-- ---- from a screen to a later one, with the trades between

pub record Goes (s e : Screen) (ts : List Trade) : Type 0 where
  pub last : e.last ≡ last_price s.last ts
  pub high : e.high ≡ high_with ts s
  pub low : e.low ≡ low_with ts s

pub goes_join : (s e f : Screen) (ts us : List Trade) → Prices ts → Goes s e ts → Goes e f us → Goes s f (ts ++ us)
unfolding high_with low_with
goes_join s e f ts us h k m =
    record {
      last = m.last ∙ rw k.last (sym (last_append s.last ts us));
      high = m.high ∙ rw (k.last, k.high) (onward_append highest highest_append s.last s.high ts us h);
      low = m.low ∙ rw (k.last, k.low) (onward_append lowest lowest_append s.last s.low ts us h);
    }

-- without a trade: where nothing had traded both are 0
pub goes_none : (d : Day) → Traded d → Shown d → Goes d.screen d.screen []
unfolding high_with low_with highest lowest first_price last_price
goes_none d k w = go (eqb d.screen.last 0) refl (eqb d.shares 0) refl
  where
    go : (b : Bool) → eqb d.screen.last 0 ≡ b → (c : Bool) → eqb d.shares 0 ≡ c → Goes d.screen d.screen []
    go true e true f =
        let z = w.enclosed.none (eqb-true d.shares 0 f) in record { last = refl; high = rw e z.1; low = rw e z.0 }
    go true e false f =
        absurd (omega (arith, eqb-true d.screen.last 0 e, w.last, (k.traded (eqb-false d.shares 0 f)).1.low))
    go false e c f = record { last = refl; high = rw e; low = rw e }

-- ---- an event, and a run

pub follows_goes :
    (d e : Day) (before book : List Order) (ts : List Trade)
    → Sound d before
    → Totals d e ts
    → Follows d ts e book
    → Goes d.screen e.screen ts
follows_goes d e before book ts s t =
    let w = sound_shown d before s in
    ⊎_elim (counted w)
    (λ r. rw (r.0, r.1) (goes_none d (whole_of d before (sound_day d before s.1)).figures w))
  where
    counted : Shown d → Counted d ts e book → Goes d.screen e.screen ts
    counted w c = unfold screen_of in
        record {
          last = ap (λ (x : Screen). x.last) c ∙ t.last ∙ ap (λ (p : ℕ). last_price p ts) (sym w.last);
          high = ap (λ (x : Screen). x.high) c;
          low = ap (λ (x : Screen). x.low) c;
        }

event_follows :
    (e : Event.Event) → is_opening e ≡ false → (lent : List Trade) (s : Desk)
    → Follows s.day (trades_of_event e lent s) (stepped_by e lent s).day (stepped_by e lent s).book
unfolding is_opening trades_of_event stepped_by
event_follows (Event.TheVariants.Open close mark) o lent s = absurd (not_both refl o)
event_follows (Event.TheVariants.Clock t) o lent s = clock_follows s.day t s.book lent
event_follows (Event.TheVariants.Order a) o lent s = order_follows s.day a s.book lent
event_follows (Event.TheVariants.Cancel account number) o lent s = cancel_follows s.day account number s.book

event_goes : (c : Call) (s : Desk) → Sound s.day s.book → Goes s.day.screen (stepped c s).day.screen (traded_by c s)
event_goes c s k =
    follows_goes s.day (stepped c s).day s.book (stepped c s).book (traded_by c s) k (event_totals c.event c.within c.lent s k)
    (event_follows c.event c.within c.lent s)

pub run_goes : (cs : List Call) (s : Desk) → Sound s.day s.book → Goes s.day.screen (after cs s).day.screen (trades_in cs s)
unfolding after trades_in
run_goes [] s k = goes_none s.day (whole_of s.day s.book (sound_day s.day s.book k.1)).figures (sound_shown s.day s.book k)
run_goes (c ∷ cs) s k =
    goes_join s.day.screen (stepped c s).day.screen (after cs (stepped c s)).day.screen (traded_by c s) (trades_in cs (stepped c s))
    (event_prices c.event c.within c.lent s k) (event_goes c s k)
    (run_goes cs (stepped c s) (event_sound c.event c.within c.lent s k))
