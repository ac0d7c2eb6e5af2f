-- What an order's trades start, as plain facts: a halt exactly where they fire. Assumes nothing.
use Prim.Native.Nat.{ℕ, ◌+◌, ◌-◌, ◌*◌}
use mathlib.Core.Path.{◌≡◌, refl}
use mathlib.Core.Logic.{inl, inr}
use mathlib.Core.Bool.{true, false, cond}
use mathlib.Core.List.{List, [], ◌∷◌}
use native.Mathlib.Omega.{arith}
use lib.ListN.{length, take, drop}
use lib.Seq.{take_at}
use Rattle.model.specs.declared.Order.{Order}
use Rattle.model.specs.declared.Asked.{Asked}
use Rattle.model.specs.declared.Trade.{Trade}
use Rattle.model.specs.declared.Day.{Day}
use Rattle.model.specs.Lists.{any}
use Rattle.model.specs.Clock.{continuous}
use Rattle.model.specs.Figures.{open_price, issue, tally}
use Rattle.model.specs.Halts.{away, reach, halt_end, halting, fires}
use Rattle.model.specs.Entry.{entry_trades}
use Rattle.model.specs.Calls.{written, entered, order_call}
use Rattle.model.proofs.Bools.{not_both, not_true_false}
use Rattle.model.proofs.HaltEnds.{continuous_hours, Ends, ends, ends_by_noon, ends_after_noon, ends_by_close, ends_at_close}
use Rattle.model.specs.Words.{Sound}
use Rattle.halts.proofs.Kept.{fired_cases}
use Rattle.soundness.specs.SoundDay.{HaltDay}
use Rattle.soundness.proofs.Says.{Says, says_le, says_eq, says_and, says_or}
use Rattle.soundness.proofs.SoundDays.{sound_halt}
use Rattle.demands.specs.Halting.{Away, Reached, Fires, EndsAt, ByOrder}
use Rattle.demands.proofs.HaltUpdates.{by_order_updated}
use Rattle.demands.proofs.Cases.{order_cases}
use Rattle.demands.proofs.Hours.{now_continuous, phase_halted}
use Rattle.demands.proofs.Firing.{fires_some, traded_now}

-- ---- what fires

says_away : (percent opened p : ℕ) → Says (away percent opened p) (Away percent opened p)
unfolding away
says_away percent opened p =
    says_or (says_le ((100 + percent) * opened) (100 * p)) (says_le (100 * p) ((100 - percent) * opened))

pub says_reach : (percent : ℕ) (ts : List Trade) (d : Day) → Says (reach percent ts d) (Reached percent (open_price d) ts)
unfolding reach any
says_reach percent [] d = (λ e. absurd (not_both e refl), λ h. absurd h)
says_reach percent (t ∷ ts) d = says_or (says_away percent (open_price d) t.price) (says_reach percent ts d)

pub says_fires : (ts : List Trade) (d : Day) → Says (fires ts d) (Fires d (open_price d) ts)
unfolding fires
says_fires ts d =
    says_and (says_eq d.limited 0)
    (says_or (says_and (says_eq d.used30 0) (says_reach 30 ts d)) (says_and (says_eq d.used60 0) (says_reach 60 ts d)))

-- ---- when it ends

pub ends_at : (s : ℕ) → EndsAt s (halt_end s)
ends_at s =
    record {
      morning = ends_by_noon s;
      over_noon = λ a b. ends_after_noon s a (omega arith);
      afternoon = ends_by_close s;
      to_close = λ a b. ends_at_close s a;
    }

-- ---- an order

module _ (d : Day) (a : Asked) (book : List Order) (s : Sound d book) where
  abbrev ts : List Trade
  ts = entry_trades d a book

  -- before what they fire
  abbrev next : Day
  next = tally ts (issue d)

  halt : HaltDay d
  halt = sound_halt d book s.1

  not_fired : fires ts next ≡ false → ByOrder d ts next
  unfolding tally issue open_price
  not_fired e =
      record {
        begins = λ f. absurd (not_both ((says_fires ts next).1 f) e);
        none_else = λ _. record { halt = refl; thirty = refl; sixty = refl };
        both = λ l r.
            let n : d.used60 ≡ 0 → ⊥ = λ z. not_both ((says_fires ts next).1 (l, inr (z, r))) e in
            let u : d.used60 ≡ 1 = omega (arith, n, halt.sixty) in
            (halt.thirty_first u, u);
      }

  fired_now : fires ts next ≡ true → ByOrder d ts (halting (halt_end d.time) 1 (cond (reach 60 ts next) 1 next.used60) next)
  unfolding tally issue open_price halting continuous
  fired_now f =
      let e = halting (halt_end d.time) 1 (cond (reach 60 ts next) 1 next.used60) next in
      let now = traded_now d a book (fires_some ts next f) in
      let k = now_continuous d now in
      let x : Ends d.time (halt_end d.time) = ends d.time (continuous_hours d.time k.0) in
      record {
        begins = λ _.
            record {
              none_before = k.1;
              phase_before = now;
              ends = ends_at d.time;
              runs = x.ahead;
              phase = phase_halted e k.0 (λ z. omega (arith, x.ahead, z));
              thirty = refl;
              not_sixty = λ n. rw (not_true_false (λ r. n ((says_reach 60 ts next).0 r)));
            };
        none_else = λ n. absurd (n ((says_fires ts next).0 f));
        both = λ l r. (refl, rw ((says_reach 60 ts next).1 r));
      }

  pub order_starts :
      (lent : List Trade)
      → ByOrder d (take (order_call d a book lent).answer.made (order_call d a book lent).trades) (order_call d a book lent).answer.day
  unfolding entered written
  order_starts lent =
      order_cases d a book lent (λ o. ByOrder d (take o.answer.made o.trades) o.answer.day)
      (λ _.
      rw (take_at ts (drop (length ts) lent) (length ts) refl) (by_order_updated ts _ d _ ts (fired_cases (ByOrder d ts) d.time ts next not_fired fired_now)))
      (λ _.
      record {
        begins = λ f. absurd (none (open_price d) f);
        none_else = λ _. record { halt = refl; thirty = refl; sixty = refl };
        both = λ _ r. absurd r;
      })
    where
      none : (opened : ℕ) → Fires d opened [] → ⊥
      none opened (l, inl x) = x.1
      none opened (l, inr x) = x.1
