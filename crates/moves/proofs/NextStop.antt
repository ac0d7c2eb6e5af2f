-- The next stop of a move: it is the first second on the way at which something is due, and before it nothing happens. Assumes nothing.
use Rattle.std.specs.Prelude.{fold, reverse}
use Rattle.std.proofs.lemmas.List.{reverse-append}
use Rattle.std.proofs.lemmas.List.Sums.{fold-append}
use Prim.Native.Nat.{ℕ, suc, ◌-◌, ◌≤◌, ◌<◌}
use mathlib.Core.Path.{◌≡◌, refl, ap, ◌∙◌}
use mathlib.Core.Logic.{◌⊎◌, inl, inr, ⊎_elim}
use mathlib.Core.Bool.{Bool, true, false, cond, ◌&&◌, ◌||◌}
use mathlib.Core.List.{List, [], ◌∷◌}
use native.Mathlib.Omega.{arith}
use lib.Dec.{leb, ltb, eqb}
use borrow.Author.Tests.{lt-ltb, ltb-true, ltb-false, leb-true, le-leb, eq-eqb, ne_eqb, eqb-true, eqb-false}
use Rattle.model.specs.Lists.{any, among}
use Rattle.model.specs.Clock.{passed}
use Rattle.model.specs.ClockCall.{Held, pass, through}
use Rattle.model.proofs.Bools.{not_both, and_left, and_right}
use Rattle.model.proofs.Seconds.{pass_cases, through_quiet, through_stop}
use Rattle.moves.specs.Stops.{stops, is_stop, passes, sooner, first_passed, next_stop}

module _ (old new : ℕ) where
  -- ---- the table, from its last second to its first

  pub first_folded : (ss : List ℕ) → fold (λ next second. sooner old new second next) 0 (reverse ss) ≡ first_passed old new ss
  unfolding first_passed
  first_folded [] = refl
  first_folded (s ∷ ss) =
      let f = λ (next second : ℕ). sooner old new second next in
      ap (fold f 0) (reverse-append (s ∷ []) ss)
      ∙ fold-append f 0 (reverse ss) (s ∷ [])
      ∙ ap (sooner old new s) (first_folded ss)

  -- ---- the first of these seconds that is passed

  pub record First (ss : List ℕ) (r : ℕ) : Type 0 where
    pub found : (r ≡ 0 → ⊥) → (old < r) × (r ≤ new) × (among ss r ≡ true)
    pub none_before : (s : ℕ) → old < s → s ≤ new → among ss s ≡ true → (r ≡ 0 → ⊥) × (r ≤ s)

  is_passed : (s : ℕ) → passes s old new ≡ true → (old < s) × (s ≤ new)
  unfolding passes
  is_passed s e =
      (ltb-true old s (and_left (ltb old s) (leb s new) e), leb-true s new (and_right (ltb old s) (leb s new) e))

  passed_is : (s : ℕ) → old < s → s ≤ new → passes s old new ≡ true
  unfolding passes
  passed_is s a b = rw (lt-ltb old s a, le-leb s new b)

  -- one second more before them
  module _ (s : ℕ) (ss : List ℕ) (r : ℕ) (f : First ss r) where
    here : among (s ∷ ss) s ≡ true
    unfolding among any
    here = rw (eq-eqb s s refl)

    there : (x : ℕ) → among ss x ≡ true → among (s ∷ ss) x ≡ true
    unfolding among any
    there x e = rw e (go (eqb x s))
      where
        go : (b : Bool) → (b || true) ≡ true
        go true = refl
        go false = refl

    split : (x : ℕ) → among (s ∷ ss) x ≡ true → (x ≡ s) ⊎ (among ss x ≡ true)
    unfolding among any
    split x e = go (eqb x s) refl e
      where
        go : (b : Bool) → eqb x s ≡ b → (b || any (eqb x) ss) ≡ true → (x ≡ s) ⊎ (among ss x ≡ true)
        go true h _ = inl (eqb-true x s h)
        go false h k = inr (unfold among in k)

    -- the earlier one stays: the second is not passed, or comes later
    stays : ((x : ℕ) → x ≡ s → old < x → x ≤ new → (r ≡ 0 → ⊥) × (r ≤ x)) → First (s ∷ ss) r
    stays k =
        record {
          found = λ n. let w = f.found n in (w.0, w.1, there r w.2);
          none_before = λ x a b m. ⊎_elim (λ e. k x e a b) (λ e. f.none_before x a b e) (split x m);
        }

    -- the second is passed and comes first
    comes : old < s → s ≤ new → (r ≡ 0) ⊎ (s < r) → First (s ∷ ss) s
    comes a b c =
        record {
          found = λ _. (a, b, here);
          none_before =
              λ x p q m.
              (λ z. omega (arith, a, z), ⊎_elim (λ e. omega (arith, e)) (λ e. let w = f.none_before x p q e in ⊎_elim (λ z. absurd (w.0 z)) (λ l. omega (arith, w.1, l)) c) (split x m));
        }

    next_first : First (s ∷ ss) (sooner old new s r)
    unfolding sooner
    next_first = go (passes s old new) (eqb r 0) (ltb s r) refl refl refl
      where
        go : (p z l : Bool) → passes s old new ≡ p → eqb r 0 ≡ z → ltb s r ≡ l → First (s ∷ ss) (cond (p && (z || l)) s r)
        go true true l e g h = let w = is_passed s e in comes w.0 w.1 (inl (eqb-true r 0 g))
        go true false true e g h = let w = is_passed s e in comes w.0 w.1 (inr (ltb-true s r h))
        go true false false e g h = stays (λ x q _ _. (eqb-false r 0 g, omega (arith, ltb-false s r h, q)))
        go false z l e g h = stays (λ x q a b. absurd (not_both (rw q at (passed_is x a b)) e))

  pub first_passed_lem : (ss : List ℕ) → First ss (first_passed old new ss)
  unfolding first_passed among any
  first_passed_lem [] = record { found = λ n. absurd (n refl); none_before = λ s a b m. absurd (not_both m refl) }
  first_passed_lem (s ∷ ss) = next_first s ss (first_passed old new ss) (first_passed_lem ss)

-- ---- what a move does up to its next stop

module _ (h : Held) where
  -- nothing is due at a second that is no stop
  pub idle : (s : ℕ) → (is_stop h.day.halt s ≡ true → ⊥) → pass s h ≡ h
  unfolding is_stop stops among any
  idle s n =
      pass_cases (λ k. k ≡ h) s h (λ e. absurd (n (rw e (or_yes (eqb 33_900 h.day.halt)))))
      (λ e. absurd (n (rw (eq-eqb s h.day.halt e))))
      (λ e. absurd (n (rw e (or_yes (eqb 54_000 h.day.halt)))))
      (λ _ _ _. refl)
    where
      or_yes : (b : Bool) → (b || true) ≡ true
      or_yes true = refl
      or_yes false = refl

  -- and something is at one
  pub stop_due :
      (s : ℕ) → is_stop h.day.halt s ≡ true → (s ≡ 33_900 → ⊥) → (s ≡ h.day.halt → ⊥) → (s ≡ 54_000 → ⊥) → ⊥
  unfolding is_stop stops among any
  stop_due s e a b c =
      not_both e (rw (ne_eqb s h.day.halt b, ne_eqb s 33_900 a, ne_eqb s 54_000 c))

  module _ (old new : ℕ) {stop : ℕ} (e : stop ≡ next_stop h.day.halt old new) where
    told : First old new (h.day.halt ∷ stops) stop
    unfolding next_stop
    told = rw e (first_passed_lem old new (h.day.halt ∷ stops))

    pub stop_there : (stop ≡ 0 → ⊥) → (old < stop) × (stop ≤ new) × (is_stop h.day.halt stop ≡ true)
    unfolding is_stop
    stop_there n = told.found n

    before : (s : ℕ) → old < s → s ≤ new → (stop ≡ 0) ⊎ (s < stop) → pass s h ≡ h
    before s a b c =
        idle s
        (λ m.
        let w = told.none_before s a b (unfold is_stop in m) in
        ⊎_elim (λ z. w.0 z) (λ l. omega (arith, w.1, l)) c)

    -- no stop: nothing happens
    pub through_none : old ≤ new → stop ≡ 0 → through (passed old new) h ≡ h
    unfolding passed
    through_none l z = through_quiet (suc old) (new - old) h (λ s a b. before s a (omega (arith, b)) (inl z))

    -- a stop: the move goes on from there
    pub through_next : (stop ≡ 0 → ⊥) → through (passed old new) h ≡ through (passed stop new) (pass stop h)
    through_next n =
        let w = stop_there n in
        through_stop old stop new h w.0 w.1 (λ s a b. before s a (omega (arith, w.1, b)) (inr b))

    -- and up to it there is nothing but what is due at it
    pub through_to : (stop ≡ 0 → ⊥) → through (passed old stop) h ≡ pass stop h
    through_to n =
        let w = stop_there n in
        through_stop old stop stop h w.0 (omega arith) (λ s a b. before s a (omega (arith, w.1, b)) (inr b)) ∙ at_once stop (pass stop h)
      where
        at_once : (s : ℕ) (k : Held) → through (passed s s) k ≡ k
        at_once s k = unfold passed in through_quiet (suc s) (s - s) k (λ x a b. absurd (omega (arith, a, b)))
