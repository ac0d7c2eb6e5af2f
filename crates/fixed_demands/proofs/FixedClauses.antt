-- The test of the fixed-price book and the record of its facts say the same. Assumes nothing.
use Prim.Native.Nat.{ℕ, ◌+◌, ◌*◌, ◌≤◌, ◌<◌}
use mathlib.Core.Path.{◌≡◌, refl, ap, ◌∙◌}
use mathlib.Core.Logic.{◌⊎◌, inl, inr, ⊎_elim}
use mathlib.Core.Bool.{Bool, true, false, not, ◌&&◌, ◌||◌}
use mathlib.Core.List.{List, []}
use native.Mathlib.Omega.{arith}
use native.Mathlib.Nat.{le_of_suc-le-suc, lt_of_not-le, not-le_of_lt}
use lib.Dec.{ltb}
use borrow.Author.Tests.{ltb-true, ltb-false, lt-ltb, not-false}
use Rattle.model.specs.declared.Order.{Order}
use Rattle.model.specs.declared.Day.{Day}
use Rattle.model.specs.Lists.{keep, any, total}
use Rattle.model.specs.Clock.{matching_from}
use Rattle.model.specs.Book.{free, stands_on}
use Rattle.model.specs.Arrival.{in_arrival}
use Rattle.model.specs.Figures.{close_price}
use Rattle.model.specs.FixedBook.{is_void}
use Rattle.model.specs.Sound.{has_places, fixed_fits, may_stand, is_free, is_order_of, is_order}
use Rattle.model.specs.SoundFixed.{one_sided, fixed_sums, sound_fixed}
use Rattle.model.specs.Refusals.{unsound_fixed}
use Rattle.model.proofs.Bools.{and_left, and_right, and_both, not_both, not_true_false}
use Rattle.model.specs.Words.{Each}
use Rattle.book.proofs.Lists.{each, both, keep_none, none_kept}
use Rattle.book.proofs.Kept.{free_number}
use Rattle.soundness.specs.SoundDay.{Rests, Place, Empty, EveningDay}
use Rattle.soundness.proofs.Says.{Says, says_le, says_eq, says_and, says_unless, says_too, says_all, says_none, says_itself}
use Rattle.soundness.proofs.Clauses.{says_place, says_between, says_empty}
use Rattle.fixed_demands.specs.FixedDay.{of_fixed, FixedFigures, FixedDay}

-- ---- the places

says_waits : (d : Day) (o : Order) → Says (is_free o || is_order_of d d.fixed.issued o) (Place (of_fixed d) o)
unfolding is_order is_order_of may_stand
says_waits d o = says_place (of_fixed d) o

-- ---- one side

any_kept : {A : Type 0} (p : A → Bool) (xs : List A) → Says (not (any p xs)) (keep p xs ≡ [])
any_kept p xs =
    let s = says_none p (λ x. p x ≡ true) (λ x. says_itself (p x)) xs in (
      λ e. keep_none p xs (each (λ x. p x ≡ true → ⊥) (λ x. p x ≡ false) xs (λ x n. not_true_false n) (s.0 e)),
      λ e. s.1 (each (λ x. p x ≡ false) (λ x. p x ≡ true → ⊥) xs (λ x f t. not_both t f) (none_kept p xs e)),
    )

not_two : (a b : Bool) {P Q : Type 0} → Says (not a) P → Says (not b) Q → Says (not (a && b)) (P ⊎ Q)
not_two true b s t = (λ e. inr (t.0 e), λ h. ⊎_elim (λ p. absurd (not_both (s.1 p) refl)) t.1 h)
not_two false b s t = (λ e. inl (s.0 refl), λ h. refl)

pub says_one_sided : (book : List Order) → Says (one_sided book) ((keep (stands_on 0) book ≡ []) ⊎ (keep (stands_on 1) book ≡ []))
unfolding one_sided
says_one_sided book =
    not_two (any (stands_on 0) book) (any (stands_on 1) book) (any_kept (stands_on 0) book) (any_kept (stands_on 1) book)

says_none_void : (close : ℕ) (book : List Order) → Says (not (any (is_void close) book)) (Each (λ o. is_void close o ≡ false) book)
says_none_void close book =
    says_too
    (each (λ o. is_void close o ≡ true → ⊥) (λ o. is_void close o ≡ false) book (λ o n. not_true_false n))
    (each (λ o. is_void close o ≡ false) (λ o. is_void close o ≡ true → ⊥) book (λ o f t. not_both t f))
    (says_none (is_void close) (λ o. is_void close o ≡ true) (λ o. says_itself (is_void close o)) book)

-- ---- the hours

says_lt : (a b : ℕ) → Says (ltb a b) (a < b)
says_lt a b = (ltb-true a b, lt-ltb a b)

pub numberless : (d : Day) (o : Order) → Place (of_fixed d) o → o.number ≡ 0 → o ≡ free
numberless d o p n = ⊎_elim (λ e. e) (λ (r : Rests (of_fixed d) o). absurd (omega (arith, r.numbered))) p

pub free_numbers : (book : List Order) → Empty book → Each (λ o. o.number ≡ 0) book
free_numbers book e = each (λ o. o ≡ free) (λ o. o.number ≡ 0) book (λ o f. ap (λ (x : Order). x.number) f ∙ free_number) e

outside :
    (book : List Order) (t : ℕ)
    → (t < 33_300 → Empty book)
    → (55_800 ≤ t → Empty book)
    → ((33_300 ≤ t) × (t ≤ 55_799) → ⊥)
    → Empty book
outside book t early ended n = go (ltb t 33_300) refl
  where
    go : (b : Bool) → ltb t 33_300 ≡ b → Empty book
    go true e = early (ltb-true t 33_300 e)
    go false e = ended (lt_of_not-le (λ h. n (ltb-false t 33_300 e, h)))

-- ---- the whole test

pub says_fixed : (d : Day) (book : List Order) → Says (sound_fixed d book) (FixedDay d book)
unfolding sound_fixed fixed_sums matching_from
says_fixed d book =
    says_too
    (λ h.
    let places = h.0.0.0.0 in
    let hours = h.0.0.1 in
    record {
      places = places;
      line = h.0.0.0.1;
      early = λ l. both (Place (of_fixed d)) (λ o. o.number ≡ 0) (λ o. o ≡ free) book (numberless d) places (hours (λ w. not-le_of_lt l w.0));
      ended = λ l. both (Place (of_fixed d)) (λ o. o.number ≡ 0) (λ o. o ≡ free) book (numberless d) places (hours (λ w. not-le_of_lt l w.1));
      one_sided = λ l. (h.0.1 (λ m. not-le_of_lt m l)).0;
      none_void = λ l. (h.0.1 (λ m. not-le_of_lt m l)).1;
      sums = h.1;
    })
    (λ (f : FixedDay d book). (
      (
        (
          (f.places, f.line),
          λ n. free_numbers book (outside book d.time f.early f.ended n),
        ),
        λ n. (f.one_sided (le_of_suc-le-suc (lt_of_not-le n)), f.none_void (le_of_suc-le-suc (lt_of_not-le n))),
      ),
      f.sums,
    ))
    (says_and
    (says_and
    (says_and
    (says_and
    (says_all (λ o. is_free o || is_order_of d d.fixed.issued o) (Place (of_fixed d)) (says_waits d) book)
    (says_itself (in_arrival (λ o. o.number) book)))
    (says_unless (says_between 33_300 55_799 d.time) (says_empty book)))
    (says_unless (says_lt d.time 54_300) (says_and (says_one_sided book) (says_none_void (close_price d) book))))
    (says_le (2 * d.fixed.shares + total (λ (o : Order). o.left) book) (1_000_000 * d.fixed.issued)))

-- the test that the calls make
module _ (d : Day) (book : List Order) where
  pub fixed_day_lem : unsound_fixed d book ≡ false → FixedDay d book
  unfolding unsound_fixed
  fixed_day_lem e =
      (says_fixed d book).0 (and_right (has_places book) (sound_fixed d book) (not-false (has_places book && sound_fixed d book) e))

  pub fixed_places : unsound_fixed d book ≡ false → has_places book ≡ true
  unfolding unsound_fixed
  fixed_places e = and_left (has_places book) (sound_fixed d book) (not-false (has_places book && sound_fixed d book) e)

  pub fixed_sound : has_places book ≡ true → FixedDay d book → unsound_fixed d book ≡ false
  unfolding unsound_fixed
  fixed_sound p f = ap not (and_both p ((says_fixed d book).1 f))

-- ---- its figures

pub says_fixed_figures : (d : Day) → Says (fixed_fits d) (FixedFigures d)
unfolding fixed_fits matching_from
says_fixed_figures d =
    says_too
    (λ h. record { issued = h.0.0.0; shares = h.0.0.1; money = h.0.1; none_yet = λ l. h.1 (λ m. not-le_of_lt l m) })
    (λ (f : FixedFigures d). (((f.issued, f.shares), f.money), λ n. f.none_yet (lt_of_not-le n)))
    (says_and
    (says_and
    (says_and (says_le d.fixed.issued 999_999) (says_le (2 * d.fixed.shares) (1_000_000 * d.fixed.issued)))
    (says_eq d.fixed.money (close_price d * d.fixed.shares)))
    (says_unless (says_le 54_300 d.time) (says_eq d.fixed.shares 0)))

pub evening_fixed : (d : Day) → EveningDay d → FixedFigures d
evening_fixed d v = record { issued = v.fixed_issued; shares = v.fixed_shares; money = v.fixed_money; none_yet = v.none_yet }
