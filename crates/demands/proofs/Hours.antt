-- When orders are taken: not before 33,300, not from 54,000, and from 33,900 to 53,819 in continuous trading alone; and the phase of a
-- day, which is the table's where no halt runs. Assumes nothing.
use Prim.Native.Nat.{ℕ, ◌≤◌, ◌<◌}
use mathlib.Core.Path.{◌≡◌, refl, ap, sym, ◌∙◌}
use mathlib.Core.Bool.{Bool, true, false, cond, not, ◌&&◌}
use mathlib.Core.List.{List, [], ◌∷◌}
use mathlib.Core.Logic.{⊎_elim}
use native.Mathlib.Omega.{arith}
use lib.Dec.{ltb, eqb}
use borrow.Author.Tests.{lt-ltb, le-ltb, eq-eqb, ne_eqb, eqb-true, eqb-false}
use Rattle.model.specs.declared.Row.{Row}
use Rattle.model.specs.declared.Day.{Day}
use Rattle.model.specs.Clock.{row, closed, later_rows, holding, row_at, phase_at, takes_orders, takes_cancels, continuous}
use Rattle.model.specs.Halts.{runs, phase_now}
use Rattle.model.proofs.Bools.{not_both}
use Rattle.model.proofs.HaltEnds.{Continuous, continuous_hours}
use Rattle.model.specs.Words.{Each}

module _ (t : ℕ) where
  before_hours : t < 33_300 → row_at t ≡ row 0 0 false false
  unfolding row_at later_rows holding closed
  before_hours h = rw (lt-ltb t 33_300 h)

  after_hours : 54_000 ≤ t → row_at t ≡ row 54_000 0 false false
  unfolding row_at later_rows holding
  after_hours h =
      rw (
        le-ltb t 33_300 (omega arith),
        le-ltb t 33_600 (omega arith),
        le-ltb t 33_900 (omega arith),
        le-ltb t 34_200 (omega arith),
        le-ltb t 41_400 (omega arith),
        le-ltb t 46_800 (omega arith),
        le-ltb t 53_820 (omega arith),
        le-ltb t 54_000 h,
      )

  pub none_early : t < 33_300 → takes_orders t ≡ false
  unfolding takes_orders
  none_early h = ap (λ (r : Row). r.orders) (before_hours h)

  pub none_late : 54_000 ≤ t → takes_orders t ≡ false
  unfolding takes_orders
  none_late h = ap (λ (r : Row). r.orders) (after_hours h)

  abbrev midday : Bool → Bool → Bool → Row
  midday b c e =
      cond b (row 33_900 3 false false)
      (cond c (row 34_200 4 true true) (cond e (row 41_400 5 false false) (row 46_800 4 true true)))

  between_auctions : 33_900 ≤ t → t ≤ 53_819 → row_at t ≡ midday (ltb t 34_200) (ltb t 41_400) (ltb t 46_800)
  unfolding row_at later_rows holding
  between_auctions a b =
      rw (
        le-ltb t 33_300 (omega arith),
        le-ltb t 33_600 (omega arith),
        le-ltb t 33_900 a,
        lt-ltb t 53_820 (omega arith),
      )

  pub then_continuous : takes_orders t ≡ true → 33_900 ≤ t → t ≤ 53_819 → phase_at t ≡ continuous
  unfolding takes_orders phase_at continuous
  then_continuous o a b =
      let e = between_auctions a b in
      ap (λ (r : Row). r.phase) e
      ∙ go (ltb t 34_200) (ltb t 41_400) (ltb t 46_800) (sym (ap (λ (r : Row). r.orders) e) ∙ o)
    where
      go : (b c e : Bool) → (midday b c e).orders ≡ true → (midday b c e).phase ≡ 4
      go true c e h = absurd (not_both h refl)
      go false true e h = refl
      go false false true h = absurd (not_both h refl)
      go false false false h = refl

-- both orders and cancels are, in continuous trading
pub continuous_takes : (t : ℕ) → Continuous t → (takes_orders t ≡ true) × (takes_cancels t ≡ true)
unfolding takes_orders takes_cancels
continuous_takes t c = (ap (λ (r : Row). r.orders) held ∙ taken.0, ap (λ (r : Row). r.cancels) held ∙ taken.1)
  where
    held : row_at t ≡ midday t (ltb t 34_200) (ltb t 41_400) (ltb t 46_800)
    held = ⊎_elim (λ h. between_auctions t (omega (arith, h.0)) (omega (arith, h.1))) (λ h. between_auctions t (omega (arith, h.0)) h.1) c

    taken :
        ((midday t (ltb t 34_200) (ltb t 41_400) (ltb t 46_800)).orders ≡ true)
        × ((midday t (ltb t 34_200) (ltb t 41_400) (ltb t 46_800)).cancels ≡ true)
    taken =
        ⊎_elim (λ h. rw (le-ltb t 34_200 h.0, lt-ltb t 41_400 (omega (arith, h.1))) (refl, refl))
        (λ h. rw (le-ltb t 34_200 (omega (arith, h.0)), le-ltb t 41_400 (omega (arith, h.0)), le-ltb t 46_800 h.0) (refl, refl)) c

-- ---- the phases of the table

-- what each row has, the one that holds has
held_has : (P : Row → Type 0) (r : Row) (later : List Row) (t : ℕ) → P r → Each P later → P (holding r later t)
unfolding holding
held_has P r [] t h k = h
held_has P r (s ∷ later) t h k = go (ltb t s.start) (held_has P s later t k.0 k.1)
  where
    go : (b : Bool) → P (holding s later t) → P (cond b r (holding s later t))
    go true g = h
    go false g = g

phase_most : (t : ℕ) → phase_at t ≤ 6
unfolding phase_at row_at closed later_rows
phase_most t =
    held_has (λ r. r.phase ≤ 6) closed later_rows t (omega arith)
    (omega arith, (omega arith, (omega arith, (omega arith, (omega arith, (omega arith, (omega arith, (omega arith, tt))))))))

pub noon_takes : (t : ℕ) → phase_at t ≡ 5 → (takes_orders t ≡ false) × (takes_cancels t ≡ false)
unfolding phase_at takes_orders takes_cancels row_at closed later_rows
noon_takes t =
    held_has (λ r. r.phase ≡ 5 → (r.orders ≡ false) × (r.cancels ≡ false)) closed later_rows t (λ _. (refl, refl))
    (λ e. absurd (omega (arith, e)), (λ e. absurd (omega (arith, e)), (λ _. (refl, refl), (λ e. absurd (omega (arith, e)), (λ _. (refl, refl), (λ e. absurd (omega (arith, e)), (λ e. absurd (omega (arith, e)), (λ _. (refl, refl), tt))))))))

-- ---- the phase of a day

module _ (d : Day) where
  pub phase_unhalted : d.halt ≡ 0 → phase_now d ≡ phase_at d.time
  unfolding phase_now runs
  phase_unhalted z = rw (eq-eqb d.halt 0 z) (go (eqb (phase_at d.time) continuous))
    where
      go : (b : Bool) → cond (b && false) 7 (phase_at d.time) ≡ phase_at d.time
      go true = refl
      go false = refl

  -- noon stays noon
  pub phase_noon : phase_at d.time ≡ 5 → phase_now d ≡ 5
  unfolding phase_now continuous
  phase_noon e = rw e

  pub phase_halted : phase_at d.time ≡ continuous → (d.halt ≡ 0 → ⊥) → phase_now d ≡ 7
  unfolding phase_now runs
  phase_halted c n = rw (eq-eqb (phase_at d.time) continuous c, ne_eqb d.halt 0 n)

  -- where trading is continuous no halt runs
  pub now_continuous : phase_now d ≡ continuous → (phase_at d.time ≡ continuous) × (d.halt ≡ 0)
  unfolding phase_now runs continuous
  now_continuous e = go (eqb (phase_at d.time) 4) refl (eqb d.halt 0) refl e
    where
      go :
          (b : Bool)
          → eqb (phase_at d.time) 4 ≡ b
          → (c : Bool)
          → eqb d.halt 0 ≡ c
          → cond (b && not c) 7 (phase_at d.time) ≡ 4
          → (phase_at d.time ≡ 4) × (d.halt ≡ 0)
      go true x true y h = (eqb-true (phase_at d.time) 4 x, eqb-true d.halt 0 y)
      go true x false y h = absurd (omega (arith, h))
      go false x c y h = absurd (eqb-false (phase_at d.time) 4 x h)

  -- and where one runs the table's phase is that of continuous trading
  pub now_halted : phase_now d ≡ 7 → Continuous d.time
  unfolding phase_now runs continuous
  now_halted e = go (eqb (phase_at d.time) 4) refl (eqb d.halt 0) e
    where
      go :
          (b : Bool)
          → eqb (phase_at d.time) 4 ≡ b
          → (c : Bool)
          → cond (b && not c) 7 (phase_at d.time) ≡ 7
          → Continuous d.time
      go true x c h = continuous_hours d.time (eqb-true (phase_at d.time) 4 x)
      go false x c h = absurd (omega (arith, h, phase_most d.time))
