-- When trading is continuous, when a halt ends that begins then, and the ends that the seconds so far lead to, all as plain numbers.
-- Assumes nothing.
use Prim.Native.Nat.{ℕ, zero, suc, ◌+◌, ◌-◌, ◌≤◌, ◌<◌}
use mathlib.Core.Path.{◌≡◌, refl, sym, ap, ◌∙◌}
use mathlib.Core.Logic.{◌⊎◌, inl, inr, ⊎_elim}
use mathlib.Core.Bool.{Bool, true, false, cond, ◌&&◌, ◌||◌}
use native.Mathlib.Omega.{arith}
use lib.Dec.{leb, ltb, eqb}
use borrow.Author.Tests.{lt-ltb, le-ltb, ltb-true, ltb-false, le-leb, leb-true, eq-eqb, ne_eqb, eqb-true, eqb-false}
use Rattle.model.specs.declared.Row.{Row}
use Rattle.model.specs.Lists.{any, from}
use Rattle.model.specs.Clock.{row, closed, later_rows, holding, row_at, phase_at, continuous}
use Rattle.model.specs.Halts.{halt_end}
use Rattle.model.specs.Sound.{between, is_led_to}
use Rattle.model.proofs.Bools.{not_both, not_true_false, and_left, and_right, and_both, true_or_false}

-- ---- the hours of continuous trading

-- from 9:30 to 11:30, and from 13:00 to 14:57
abbrev pub Continuous : ℕ → Type 0
Continuous s = ((34_200 ≤ s) × (s ≤ 41_399)) ⊎ ((46_800 ≤ s) × (s ≤ 53_819))

abbrev rows : Bool → Bool → Bool → Bool → Bool → Bool → Bool → Bool → Row
rows a b c d e f g h =
    cond a (row 0 0 false false)
    (cond b (row 33_300 1 true true)
    (cond c (row 33_600 2 true false)
    (cond d (row 33_900 3 false false)
    (cond e (row 34_200 4 true true)
    (cond f (row 41_400 5 false false) (cond g (row 46_800 4 true true) (cond h (row 53_820 6 true false) (row 54_000 0 false false))))))))

module _ (s : ℕ) where
  pub continuous_hours : phase_at s ≡ continuous → Continuous s
  unfolding phase_at row_at holding closed later_rows continuous
  continuous_hours p =
      go (ltb s 33_300) (ltb s 33_600) (ltb s 33_900) (ltb s 34_200) (ltb s 41_400) (ltb s 46_800) (ltb s 53_820) (ltb s 54_000) refl refl refl refl p
    where
      go :
          (a b c d e f g h : Bool)
          → ltb s 34_200 ≡ d
          → ltb s 41_400 ≡ e
          → ltb s 46_800 ≡ f
          → ltb s 53_820 ≡ g
          → (rows a b c d e f g h).phase ≡ 4
          → Continuous s
      go true b c d e f g h w x y z p = absurd (omega arith)
      go false true c d e f g h w x y z p = absurd (omega arith)
      go false false true d e f g h w x y z p = absurd (omega arith)
      go false false false true e f g h w x y z p = absurd (omega arith)
      go false false false false true f g h w x y z p = inl (ltb-false s 34_200 w, omega (arith, ltb-true s 41_400 x))
      go false false false false false true g h w x y z p = absurd (omega arith)
      go false false false false false false true h w x y z p = inr (ltb-false s 46_800 y, omega (arith, ltb-true s 53_820 z))
      go false false false false false false false true w x y z p = absurd (omega arith)
      go false false false false false false false false w x y z p = absurd (omega arith)

  module _ (h : 34_200 ≤ s) where
    morning_row : s ≤ 41_399 → row_at s ≡ row 34_200 4 true true
    unfolding row_at holding later_rows
    morning_row k =
        rw (le-ltb s 33_300 (omega arith), le-ltb s 33_600 (omega arith), le-ltb s 33_900 (omega arith), le-ltb s 34_200 h, lt-ltb s 41_400 (omega arith))

    noon_row : 41_400 ≤ s → s ≤ 46_799 → row_at s ≡ row 41_400 5 false false
    unfolding row_at holding later_rows
    noon_row l k =
        rw (
          le-ltb s 33_300 (omega arith),
          le-ltb s 33_600 (omega arith),
          le-ltb s 33_900 (omega arith),
          le-ltb s 34_200 h,
          le-ltb s 41_400 l,
          lt-ltb s 46_800 (omega arith),
        )

    afternoon_row : 46_800 ≤ s → s ≤ 53_819 → row_at s ≡ row 46_800 4 true true
    unfolding row_at holding later_rows
    afternoon_row l k =
        rw (
          le-ltb s 33_300 (omega arith),
          le-ltb s 33_600 (omega arith),
          le-ltb s 33_900 (omega arith),
          le-ltb s 34_200 h,
          le-ltb s 41_400 (omega arith),
          le-ltb s 46_800 l,
          lt-ltb s 53_820 (omega arith),
        )

    at_noon : 41_400 ≤ s → s ≤ 46_799 → phase_at s ≡ 5
    unfolding phase_at
    at_noon l k = ap (λ (r : Row). r.phase) (noon_row l k)

  pub hours_continuous : Continuous s → phase_at s ≡ continuous
  unfolding phase_at continuous
  hours_continuous c =
      ⊎_elim (λ m. ap (λ (r : Row). r.phase) (morning_row m.0 m.1))
      (λ a. ap (λ (r : Row). r.phase) (afternoon_row (omega (arith, a.0)) a.0 a.1)) c

-- ---- when a halt ends that begins at a second

module _ (s : ℕ) where
  -- a phase that is not noon
  unmoved : s + 600 ≤ 53_820 → (phase_at (s + 600) ≡ 5 → ⊥) → halt_end s ≡ s + 600
  unfolding halt_end
  unmoved h n = rw (le-ltb 53_820 (s + 600) h, ne_eqb (phase_at (s + 600)) 5 n)

  not_noon : Continuous (s + 600) → phase_at (s + 600) ≡ 5 → ⊥
  unfolding continuous
  not_noon c e = let p : phase_at (s + 600) ≡ 4 = hours_continuous (s + 600) c in omega arith

  pub ends_by_noon : 34_200 ≤ s → s < 40_800 → halt_end s ≡ s + 600
  ends_by_noon a b = unmoved (omega arith) (not_noon (inl (omega arith, omega arith)))

  pub ends_after_noon : 40_800 ≤ s → s ≤ 41_399 → halt_end s ≡ 46_800
  unfolding halt_end
  ends_after_noon a b =
      rw (le-ltb 53_820 (s + 600) (omega arith), eq-eqb (phase_at (s + 600)) 5 (at_noon (s + 600) (omega arith) (omega arith) (omega arith)))

  pub ends_by_close : 46_800 ≤ s → s < 53_220 → halt_end s ≡ s + 600
  ends_by_close a b = unmoved (omega arith) (not_noon (inr (omega arith, omega arith)))

  -- 14:57 sharp is no noon either
  pub ends_at_close : 53_220 ≤ s → halt_end s ≡ 53_820
  ends_at_close a = go (ltb 53_820 (s + 600)) refl
    where
      sharp : phase_at 53_820 ≡ 5 → ⊥
      sharp = unfold phase_at row_at holding closed later_rows in (λ e. omega arith)

      go : (b : Bool) → ltb 53_820 (s + 600) ≡ b → halt_end s ≡ 53_820
      go true e = unfold halt_end in rw e
      go false e =
          let l : s + 600 ≤ 53_820 = ltb-false 53_820 (s + 600) e in
          let k : s + 600 ≡ 53_820 = omega arith in
          unmoved l (λ p. sharp (ap phase_at (sym k) ∙ p)) ∙ k

-- the end lies ahead, in continuous trading or at 14:57
pub record Ends (s end : ℕ) : Type 0 where
  pub ahead : s < end
  pub latest : end ≤ 53_820
  pub lands : Continuous end ⊎ (end ≡ 53_820)

-- 600 seconds on; over noon to 13:00, and to 14:57 at the latest
abbrev Cases : ℕ → Type 0
Cases s =
    ((34_200 ≤ s) × (s < 40_800))
    ⊎ (((40_800 ≤ s) × (s ≤ 41_399)) ⊎ (((46_800 ≤ s) × (s < 53_220)) ⊎ ((53_220 ≤ s) × (s ≤ 53_819))))

module _ (s : ℕ) where
  cases : Continuous s → Cases s
  cases c =
      ⊎_elim
      (λ m. ⊎_elim (λ e. inl (m.0, ltb-true s 40_800 e)) (λ e. inr (inl (ltb-false s 40_800 e, m.1))) (true_or_false (ltb s 40_800)))
      (λ m.
      ⊎_elim (λ e. inr (inr (inl (m.0, ltb-true s 53_220 e)))) (λ e. inr (inr (inr (ltb-false s 53_220 e, m.1)))) (true_or_false (ltb s 53_220)))
      c

  pub ends : Continuous s → Ends s (halt_end s)
  ends c = go (cases c)
    where
      plain : halt_end s ≡ s + 600 → Continuous (s + 600) → Ends s (halt_end s)
      plain e k =
          rw e
          (record { ahead = omega arith; latest = ⊎_elim (λ x. omega (arith, x.1)) (λ x. omega (arith, x.1)) k; lands = inl k })

      go : Cases s → Ends s (halt_end s)
      go (inl m) = plain (ends_by_noon s m.0 m.1) (inl (omega arith, omega arith))
      go (inr (inl m)) =
          rw (ends_after_noon s m.0 m.1)
          (record { ahead = omega arith; latest = omega arith; lands = inl (inr (omega arith, omega arith)) })
      go (inr (inr (inl m))) = plain (ends_by_close s m.0 m.1) (inr (omega arith, omega arith))
      go (inr (inr (inr m))) =
          rw (ends_at_close s m.0) (record { ahead = omega arith; latest = omega arith; lands = inr refl })

-- ---- the ends that the seconds so far lead to

module _ (p : ℕ → Bool) where
  pub any_found : (n k : ℕ) → any p (from n k) ≡ true → (s : ℕ) × (n ≤ s) × (s < n + k) × (p s ≡ true)
  unfolding any from
  any_found n zero e = absurd (not_both e refl)
  any_found n (suc k) e = go (p n) refl (any_found (suc n) k) e
    where
      go :
          (b : Bool)
          → p n ≡ b
          → (any p (from (suc n) k) ≡ true → (s : ℕ) × (suc n ≤ s) × (s < suc n + k) × (p s ≡ true))
          → (b || any p (from (suc n) k)) ≡ true
          → (s : ℕ) × (n ≤ s) × (s < n + suc k) × (p s ≡ true)
      go true h f e = (n, omega arith, omega arith, h)
      go false h f e = let r = f e in (r.0, omega (arith, r.1), omega (arith, r.2), r.3)

  pub found_any : (n k s : ℕ) → n ≤ s → s < n + k → p s ≡ true → any p (from n k) ≡ true
  unfolding any from
  found_any n zero s a b e = absurd (omega arith)
  found_any n (suc k) s a b e = go (eqb n s) refl (found_any (suc n) k s)
    where
      yes : (b : Bool) → (b || true) ≡ true
      yes true = refl
      yes false = refl

      go : (c : Bool) → eqb n s ≡ c → (suc n ≤ s → s < suc n + k → p s ≡ true → any p (from (suc n) k) ≡ true) → (p n || any p (from (suc n) k)) ≡ true
      go true h f = let m : n ≡ s = eqb-true n s h in rw (ap p m ∙ e)
      go false h f =
          let m : n ≡ s → ⊥ = eqb-false n s h in
          let l : suc n ≤ s = omega (arith, m) in
          rw (f l (omega arith) e) (yes (p n))

-- some continuous second up to this time has this end
abbrev pub LedTo : ℕ → ℕ → Type 0
LedTo end time = (s : ℕ) × (s ≤ time) × Continuous s × (halt_end s ≡ end)

module _ (end time : ℕ) where
  pub led_told : is_led_to end time ≡ true → LedTo end time
  unfolding is_led_to
  led_told e =
      let r = any_found (λ s. eqb (phase_at s) continuous && eqb (halt_end s) end) 0 (suc time) e in
      let p = eqb (phase_at r.0) continuous in
      let q = eqb (halt_end r.0) end in (
        r.0,
        omega (arith, r.2),
        continuous_hours r.0 (eqb-true (phase_at r.0) continuous (and_left p q r.3)),
        eqb-true (halt_end r.0) end (and_right p q r.3),
      )

  pub told_led : LedTo end time → is_led_to end time ≡ true
  unfolding is_led_to
  told_led r =
      found_any (λ s. eqb (phase_at s) continuous && eqb (halt_end s) end) 0 (suc time) r.0 (omega arith) (omega (arith, r.1))
      (and_both (eq-eqb (phase_at r.0) continuous (hours_continuous r.0 r.2)) (eq-eqb (halt_end r.0) end r.3))

  -- decided without a search: 13:00 from 11:20 on, any other end from 600 seconds before it on
  abbrev pub Led : Type 0
  Led =
      ((end ≡ 46_800) × (40_800 ≤ time))
      ⊎ ((((34_800 ≤ end) × (end ≤ 41_399)) ⊎ ((47_400 ≤ end) × (end ≤ 53_820))) × (end ≤ time + 600))

  pub told_by_lem : LedTo end time → Led
  told_by_lem r = go r.0 r.1 r.3 (cases r.0 r.2)
    where
      go : (s : ℕ) → s ≤ time → halt_end s ≡ end → Cases s → Led
      go s l e (inl m) =
          let x = ends_by_noon s m.0 m.1 in inr (inl (omega (arith, x), omega (arith, x)), omega (arith, x))
      go s l e (inr (inl m)) = inl (sym e ∙ ends_after_noon s m.0 m.1, omega arith)
      go s l e (inr (inr (inl m))) =
          let x = ends_by_close s m.0 m.1 in inr (inr (omega (arith, x), omega (arith, x)), omega (arith, x))
      go s l e (inr (inr (inr m))) =
          let x = ends_at_close s m.0 in inr (inr (omega (arith, x), omega (arith, x)), omega (arith, x))

  pub by_told : Led → LedTo end time
  by_told led = go led
    where
      morning : (s : ℕ) → s + 600 ≡ end → s ≤ time → 34_200 ≤ s → s < 40_800 → LedTo end time
      morning s e l a b = (s, l, inl (a, omega arith), ends_by_noon s a b ∙ e)

      later : (s : ℕ) → s + 600 ≡ end → s ≤ time → 46_800 ≤ s → s ≤ 53_220 → LedTo end time
      later s e l a b = (s, l, inr (a, omega arith), go (ltb s 53_220) refl)
        where
          go : (c : Bool) → ltb s 53_220 ≡ c → halt_end s ≡ end
          go true h = ends_by_close s a (ltb-true s 53_220 h) ∙ e
          go false h = ends_at_close s (ltb-false s 53_220 h) ∙ omega (arith, ltb-false s 53_220 h)

      go : Led → LedTo end time
      go (inl h) = (40_800, h.1, inl (omega arith, omega arith), ends_after_noon 40_800 (omega arith) (omega arith) ∙ sym h.0)
      go (inr (inl m, l)) = morning (end - 600) (omega arith) (omega arith) (omega arith) (omega arith)
      go (inr (inr m, l)) = later (end - 600) (omega arith) (omega arith) (omega arith) (omega arith)

-- the same as one test, by which code decides
unfoldable pub led_by : ℕ → ℕ → Bool
led_by end time =
    cond (eqb end 46_800) (leb 40_800 time) ((between 34_800 41_399 end || between 47_400 53_820 end) && leb (end - 600) time)

in_between : (a b t : ℕ) → between a b t ≡ true → (a ≤ t) × (t ≤ b)
unfolding between
in_between a b t e = (leb-true a t (and_left (leb a t) (leb t b) e), leb-true t b (and_right (leb a t) (leb t b) e))

between_in : (a b t : ℕ) → a ≤ t → t ≤ b → between a b t ≡ true
unfolding between
between_in a b t l h = and_both (le-leb a t l) (le-leb t b h)

or_told : (a b : Bool) → (a || b) ≡ true → (a ≡ true) ⊎ (b ≡ true)
or_told true b e = inl refl
or_told false b e = inr e

or_right : (a : Bool) → (a || true) ≡ true
or_right true = refl
or_right false = refl

module _ (end time : ℕ) where
  test_told : led_by end time ≡ true → Led end time
  unfolding led_by
  test_told e = go (eqb end 46_800) refl e
    where
      go :
          (b : Bool)
          → eqb end 46_800 ≡ b
          → cond b (leb 40_800 time) ((between 34_800 41_399 end || between 47_400 53_820 end) && leb (end - 600) time) ≡ true
          → Led end time
      go true h f = inl (eqb-true end 46_800 h, leb-true 40_800 time f)
      go false h f =
          let w = and_left (between 34_800 41_399 end || between 47_400 53_820 end) (leb (end - 600) time) f in
          let l = leb-true (end - 600) time (and_right (between 34_800 41_399 end || between 47_400 53_820 end) (leb (end - 600) time) f) in
          inr (
            ⊎_elim (λ x. inl (in_between 34_800 41_399 end x)) (λ x. inr (in_between 47_400 53_820 end x))
                (or_told (between 34_800 41_399 end) (between 47_400 53_820 end) w),
            omega (arith, l),
          )

  told_test : Led end time → led_by end time ≡ true
  unfolding led_by
  told_test (inl h) = rw (eq-eqb end 46_800 h.0) (le-leb 40_800 time h.1)
  told_test (inr (inl m, l)) =
      rw (ne_eqb end 46_800 (λ e. omega (arith, e, m.1)), between_in 34_800 41_399 end m.0 m.1) (le-leb (end - 600) time (omega arith))
  told_test (inr (inr m, l)) =
      rw (ne_eqb end 46_800 (λ e. omega (arith, e, m.0)), between_in 47_400 53_820 end m.0 m.1, or_right (between 34_800 41_399 end))
      (le-leb (end - 600) time (omega arith))

  pub led_is : led_by end time ≡ is_led_to end time
  led_is = go (led_by end time) refl
    where
      go : (b : Bool) → led_by end time ≡ b → led_by end time ≡ is_led_to end time
      go true e = e ∙ sym (told_led end time (by_told end time (test_told e)))
      go false e =
          e ∙ sym (not_true_false (λ x. not_both (told_test (told_by_lem end time (led_told end time x))) e))
