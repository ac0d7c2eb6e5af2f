-- A day's halt through its events: what its end says of the hours, and the day while it waits, when it begins and once it is over.
-- Assumes nothing.
use Prim.Native.Nat.{ℕ, zero, suc, ◌≤◌, ◌<◌}
use mathlib.Core.Path.{◌≡◌, refl, sym, ◌∙◌, subst}
use mathlib.Core.Logic.{◌⊎◌, inl, inr, ⊎_elim}
use mathlib.Core.List.{List}
use native.Mathlib.Omega.{arith}
use Rattle.model.specs.declared.Order.{Order}
use Rattle.model.specs.declared.Day.{Day}
use Rattle.model.specs.Clock.{phase_at, continuous}
use Rattle.model.specs.Halts.{halt_end}
use Rattle.model.proofs.HaltEnds.{Continuous, hours_continuous, Ends, ends, LedTo, led_told, told_led}
use Rattle.model.specs.Words.{Sound}
use Rattle.soundness.specs.SoundDay.{HaltDay}
use Rattle.soundness.proofs.SoundDays.{sound_day, sound_halt}
use Rattle.demands.specs.Halting.{Halted}

-- ---- what the end of a halt says of the hours

pub record Runs (d : Day) : Type 0 where
  pub begun : 34_200 ≤ d.time
  pub ahead : d.time < d.halt
  pub latest : d.halt ≤ 53_820
  pub lands : Continuous d.halt ⊎ (d.halt ≡ 53_820)

pub running : (d : Day) → HaltDay d → (d.halt ≡ 0 → ⊥) → Runs d
running d k n =
    let l : LedTo d.halt d.time = led_told d.halt d.time (k.led n) in
    let e : Ends l.0 d.halt = subst (Ends l.0) l.3 (ends l.0 l.2) in
    record {
      begun = ⊎_elim (λ c. omega (arith, l.1, c.0)) (λ c. omega (arith, l.1, c.0)) l.2;
      ahead = k.ahead n;
      latest = e.latest;
      lands = e.lands;
    }

-- ---- what a sound day says of it

pub none_runs : (d : Day) → ((d.halt ≡ 0 → ⊥) → ⊥) → d.halt ≡ 0
none_runs d h = go d.halt h
  where
    go : (n : ℕ) → ((n ≡ 0 → ⊥) → ⊥) → n ≡ 0
    go zero h = refl
    go (suc n) h = absurd (h (λ z. omega (arith, z)))

now_is : (t : ℕ) → Continuous t → phase_at t ≡ 4
unfolding continuous
now_is t c = hours_continuous t c

pub day_halted : (d : Day) (book : List Order) → Sound d book → Halted d
day_halted d book s =
    let k = sound_halt d book s.1 in
    record {
      unlimited = λ u.
          let h = k.unlimited u in
          (omega (arith, h.0, (sound_day d book s.1).limited), h.1);
      thirty_first = k.thirty_first;
      uses = k.uses;
      ahead = λ n. let r = running d k n in (r.begun, r.ahead, r.latest);
      over = λ l. none_runs d (λ n. let r = running d k n in omega (arith, l, r.ahead, r.latest));
      lands = λ n. ⊎_elim (λ c. inl (now_is d.halt c)) inr (running d k n).lands;
    }

-- ---- the day then: the same thresholds are used

pub record SameMarks (d e : Day) : Type 0 where
  pub thirty : e.used30 ≡ d.used30
  pub sixty : e.used60 ≡ d.used60
  pub limited : e.limited ≡ d.limited
  pub shares : d.shares ≤ e.shares

module _ (d e : Day) (k : HaltDay d) (m : SameMarks d e) where
  still_unlimited : e.used30 ≡ 1 → (e.limited ≡ 1 → ⊥) × (e.shares ≡ 0 → ⊥)
  still_unlimited u =
      let h = k.unlimited (sym m.thirty ∙ u) in
      (λ l. h.0 (sym m.limited ∙ l), λ z. h.1 (omega (arith, m.shares, z)))

  -- no halt runs
  pub halt_over : e.halt ≡ 0 → HaltDay e
  halt_over z =
      record {
        thirty = omega (arith, m.thirty, k.thirty);
        sixty = omega (arith, m.sixty, k.sixty);
        ahead = λ n. absurd (n z);
        led = λ n. absurd (n z);
        thirty_first = λ u. m.thirty ∙ k.thirty_first (sym m.sixty ∙ u);
        uses = λ n. absurd (n z);
        unlimited = still_unlimited;
      }

  -- the halt goes on
  pub halt_waits : e.halt ≡ d.halt → d.time ≤ e.time → ((e.halt ≡ 0 → ⊥) → e.time < e.halt) → HaltDay e
  halt_waits same later ahead =
      record {
        thirty = omega (arith, m.thirty, k.thirty);
        sixty = omega (arith, m.sixty, k.sixty);
        ahead = ahead;
        led = λ n.
            let l : LedTo d.halt d.time = led_told d.halt d.time (k.led (λ z. n (same ∙ z))) in
            told_led e.halt e.time (l.0, omega (arith, l.1, later), l.2, l.3 ∙ sym same);
        thirty_first = λ u. m.thirty ∙ k.thirty_first (sym m.sixty ∙ u);
        uses = λ n. m.thirty ∙ k.uses (λ z. n (same ∙ z));
        unlimited = still_unlimited;
      }

-- a halt begins
pub halt_begins :
    (d : Day)
    → Continuous d.time
    → d.halt ≡ halt_end d.time
    → d.used30 ≡ 1
    → d.used60 ≤ 1
    → d.limited ≡ 0
    → (d.shares ≡ 0 → ⊥)
    → HaltDay d
halt_begins d c e u v l n =
    let k : Ends d.time (halt_end d.time) = ends d.time c in
    record {
      thirty = omega (arith, u);
      sixty = v;
      ahead = λ _. omega (arith, e, k.ahead);
      led = λ _. told_led d.halt d.time (d.time, omega arith, c, sym e);
      thirty_first = λ _. u;
      uses = λ _. u;
      unlimited = λ _. (λ x. omega (arith, l, x), n);
    }
