-- What the test of the fixed-price book tells, clause by clause: 15 is given, or the call may use its facts. Assumes nothing.
use Prim.Native.Nat.{ℕ, ◌+◌, ◌*◌, ◌≤◌, ◌<◌}
use mathlib.Core.Path.{◌≡◌, refl, sym, ap, ◌∙◌}
use mathlib.Core.Logic.{◌⊎◌, ⊎_elim}
use mathlib.Core.Bool.{Bool, true, false, not, ◌&&◌, ◌||◌}
use mathlib.Core.List.{List}
use native.Mathlib.Omega.{arith}
use native.Mathlib.Nat.{lt_of_not-le, not-le_of_lt}
use lib.ListN.{length}
use lib.Dec.{leb, ltb, eqb}
use borrow.Author.Tests.{leb-true, ltb-true, ltb-false, lt-ltb, le-ltb, not-false}
use Rattle.model.specs.declared.Order.{Order}
use Rattle.model.specs.declared.Day.{Day}
use Rattle.model.specs.Lists.{all, any, total}
use Rattle.model.specs.Clock.{matching_from}
use Rattle.model.specs.Book.{free, stands_on}
use Rattle.model.specs.Arrival.{in_arrival}
use Rattle.model.specs.Figures.{reference, close_price}
use Rattle.model.specs.Sound.{has_places, may_stand, is_free, is_order_of, is_order, is_empty, between, fixed_fits}
use Rattle.model.specs.FixedBook.{is_void}
use Rattle.model.specs.SoundFixed.{one_sided, fixed_sums, sound_fixed}
use Rattle.model.specs.Refusals.{unsound, unsound_fixed}
use Rattle.model.specs.Words.{Each}
use Rattle.model.proofs.Bools.{and_left, and_right, not_both, not_true_false}
use Rattle.book.specs.Standing.{Fair}
use Rattle.book.proofs.Lists.{both, each}
use Rattle.book.proofs.Kept.{free_number}
use Rattle.soundness.specs.SoundDay.{Rests, Place, Empty}
use Rattle.soundness.proofs.Says.{Says, says_le, says_eq, says_and, says_or, says_unless, says_too, says_all, says_none, says_itself}
use Rattle.soundness.proofs.Clauses.{says_rests, says_free, says_between, says_empty}
use Rattle.soundness.proofs.EveningClauses.{close_small}
use Rattle.soundness.proofs.SoundDays.{fair_place, few_places}
use Rattle.soundness.proofs.Totals.{empty_is, shares_within}
use Rattle.soundness.proofs.Readiness.{ready_if}
use Rattle.fixed_book.specs.Ready.{Lined, as_fixed, FixedLine, FixedDay, FixedReady}

-- ---- the places

pub says_fixed_order : (d : Day) (o : Order) → Says (is_order_of d d.fixed.issued o) (Rests (as_fixed d) o)
says_fixed_order d o = rw (same) (says_rests (as_fixed d) o)
  where
    same : is_order_of d d.fixed.issued o ≡ is_order (as_fixed d) o
    same = unfold is_order is_order_of may_stand in refl

pub says_fixed_place : (d : Day) (o : Order) → Says (is_free o || is_order_of d d.fixed.issued o) (Place (as_fixed d) o)
says_fixed_place d o = says_or (says_free o) (says_fixed_order d o)

-- ---- the day's own figures of this book

pub says_fixed_day : (d : Day) → Says (fixed_fits d) (FixedDay d)
unfolding fixed_fits matching_from
says_fixed_day d =
    says_too
    (λ h.
    record {
      issued = h.0.0.0;
      shares = h.0.0.1;
      money = h.0.1;
      none_yet = λ l. h.1 (λ m. not-le_of_lt l m);
    })
    (λ (e : FixedDay d). (((e.issued, e.shares), e.money), λ n. e.none_yet (lt_of_not-le n)))
    (says_and
    (says_and
    (says_and (says_le d.fixed.issued 999_999) (says_le (2 * d.fixed.shares) (1_000_000 * d.fixed.issued)))
    (says_eq d.fixed.money (close_price d * d.fixed.shares)))
    (says_unless (says_le 54_300 d.time) (says_eq d.fixed.shares 0)))

-- ---- from 15:05 on

says_later : (t : ℕ) → Says (ltb t 54_300) (t < 54_300)
says_later t = (ltb-true t 54_300, lt-ltb t 54_300)

neither : (a b : Bool) → not (a && b) ≡ (not a || not b)
neither true b = refl
neither false b = refl

pub says_one_sided :
    (book : List Order) → Says (one_sided book) (Each (λ o. stands_on 0 o ≡ false) book ⊎ Each (λ o. stands_on 1 o ≡ false) book)
unfolding one_sided
says_one_sided book =
    rw (neither (any (stands_on 0) book) (any (stands_on 1) book)) (says_or (none 0) (none 1))
  where
    none : (side : ℕ) → Says (not (any (stands_on side) book)) (Each (λ o. stands_on side o ≡ false) book)
    none side =
        says_too
        (λ e. each (λ o. stands_on side o ≡ true → ⊥) (λ o. stands_on side o ≡ false) book (λ o h. not_true_false h) e)
        (λ e. each (λ o. stands_on side o ≡ false) (λ o. stands_on side o ≡ true → ⊥) book (λ o h t. not_both t h) e)
        (says_none (stands_on side) (λ o. stands_on side o ≡ true) (λ o. says_itself (stands_on side o)) book)

pub says_none_void : (close : ℕ) (book : List Order) → Says (not (any (is_void close) book)) (Each (λ o. is_void close o ≡ false) book)
says_none_void close book =
    says_too
    (λ e. each (λ o. is_void close o ≡ true → ⊥) (λ o. is_void close o ≡ false) book (λ o h. not_true_false h) e)
    (λ e. each (λ o. is_void close o ≡ false) (λ o. is_void close o ≡ true → ⊥) book (λ o h t. not_both t h) e)
    (says_none (is_void close) (λ o. is_void close o ≡ true) (λ o. says_itself (is_void close o)) book)

-- the same, one test after the other
module _ (d : Day) (book : List Order) where
  abbrev rests_right : Bool
  rests_right = ltb d.time matching_from || (one_sided book && not (any (is_void (close_price d)) book))

  pub before_matching : d.time < 54_300 → true ≡ rests_right
  unfolding matching_from
  before_matching l = rw (lt-ltb d.time 54_300 l)

  pub two_sided : 54_300 ≤ d.time → one_sided book ≡ false → false ≡ rests_right
  unfolding matching_from
  two_sided l e = rw (le-ltb d.time 54_300 l, e)

  pub void_tells :
      54_300 ≤ d.time → one_sided book ≡ true → {close : ℕ} → close ≡ reference d → {r : Bool} → r ≡ any (is_void close) book → not r ≡ rests_right
  unfolding matching_from close_price
  void_tells l e c f = rw (le-ltb d.time 54_300 l, e, f, c)

-- ---- the whole test

numberless : (d : Day) (o : Order) → Place (as_fixed d) o → o.number ≡ 0 → o ≡ free
numberless d o p n = ⊎_elim (λ e. e) (λ (r : Rests (as_fixed d) o). absurd (omega (arith, r.numbered))) p

no_number : (o : Order) → o ≡ free → o.number ≡ 0
no_number o e = ap (λ (x : Order). x.number) e ∙ free_number

module _ (book : List Order) (t : ℕ) where
  outside : (t < 33_300 → Empty book) → (55_800 ≤ t → Empty book) → ((33_300 ≤ t) × (t ≤ 55_799) → ⊥) → Empty book
  outside early late n = go (ltb t 33_300) refl
    where
      go : (b : Bool) → ltb t 33_300 ≡ b → Empty book
      go true e = early (ltb-true t 33_300 e)
      go false e = late (lt_of_not-le (λ h. n (ltb-false t 33_300 e, h)))

pub says_line : (d : Day) (book : List Order) → Says (sound_fixed d book) (FixedLine d book)
unfolding sound_fixed fixed_sums matching_from
says_line d book =
    says_too
    (λ h.
    let places = h.0.0.0.0 in
    let hours = h.0.0.1 in
    let resting = h.0.1 in
    record {
      places = places;
      arrived = h.0.0.0.1;
      early = λ l. emptied places (hours (λ w. not-le_of_lt l w.0));
      late = λ l. emptied places (hours (λ w. not-le_of_lt l w.1));
      one_sided = λ l. (resting (λ m. omega (arith, l, m))).0;
      none_void = λ l. (resting (λ m. omega (arith, l, m))).1;
      sums = h.1;
    })
    (λ (s : FixedLine d book). (
      (
        (
          (s.places, s.arrived),
          λ n. each (λ o. o ≡ free) (λ o. o.number ≡ 0) book no_number (outside book d.time s.early s.late n),
        ),
        λ n.
            let l : 54_300 ≤ d.time = omega (arith, n) in
            (s.one_sided l, s.none_void l),
      ),
      s.sums,
    ))
    (says_and
    (says_and
    (says_and
    (says_and
    (says_all (λ o. is_free o || is_order_of d d.fixed.issued o) (Place (as_fixed d)) (says_fixed_place d) book)
    (says_itself (in_arrival (λ (o : Order). o.number) book)))
    (says_unless (says_between 33_300 55_799 d.time) (says_empty book)))
    (says_unless (says_later d.time) (says_and (says_one_sided book) (says_none_void (close_price d) book))))
    (says_le (2 * d.fixed.shares + total (λ (o : Order). o.left) book) (1_000_000 * d.fixed.issued)))
  where
    emptied : Each (Place (as_fixed d)) book → Each (λ o. o.number ≡ 0) book → Empty book
    emptied = both (Place (as_fixed d)) (λ o. o.number ≡ 0) (λ o. o ≡ free) book (numberless d)

-- ---- what the walks need

pub places_fair : (d : Day) (book : List Order) → d.fixed.issued ≤ 999_999 → Each (Place (as_fixed d)) book → Each Fair book
places_fair d book l p = each (Place (as_fixed d)) Fair book (λ o h. fair_place (as_fixed d) o l h) p

pub line_lined : (d : Day) (book : List Order) → FixedDay d → length book ≤ 4_096 → FixedLine d book → Lined book
line_lined d book f l s =
    record { fair = places_fair d book f.issued s.places; arrived = s.arrived; few = l }

module _ (d : Day) (main book : List Order) where
  -- what a call may use of the book once both tests have passed
  pub fixed_ready : unsound d main ≡ false → unsound_fixed d book ≡ false → FixedReady d book
  unfolding unsound_fixed
  fixed_ready e f =
      let r = ready_if d main e in
      let tested : (has_places book && sound_fixed d book) ≡ true = not-false (has_places book && sound_fixed d book) f in
      let places : has_places book ≡ true = and_left (has_places book) (sound_fixed d book) tested in
      let line : FixedLine d book = (says_line d book).0 (and_right (has_places book) (sound_fixed d book) tested) in
      let v = r.evening in
      let day : FixedDay d =
      record { issued = v.fixed_issued; shares = v.fixed_shares; money = v.fixed_money; none_yet = v.none_yet }
      in
      record {
        sound = f;
        close = r.sound.close;
        limited = r.sound.limited;
        price = close_small d main r.sound;
        day = day;
        line = line;
        lined = line_lined d book day (few_places book places) line;
        some = some_places places;
      }
    where
      some_places : has_places book ≡ true → 1 ≤ length book
      some_places h = unfold has_places in leb-true 1 (length book) (and_left (leb 1 (length book)) (leb (length book) 4_096) h)

-- ---- the test, stage by stage

module _ (d : Day) (book : List Order) where
  abbrev tested : Bool
  tested = has_places book && sound_fixed d book

  abbrev places_sound : Bool
  places_sound = all (λ (o : Order). is_free o || is_order_of d d.fixed.issued o) book

  abbrev in_hours : Bool
  in_hours = between 33_300 55_799 d.time || is_empty book

  pub no_places : has_places book ≡ false → false ≡ tested
  no_places h = rw h

  module _ (h : has_places book ≡ true) where
    pub place_wrong : places_sound ≡ false → false ≡ tested
    unfolding sound_fixed
    place_wrong a = rw (h, a)

    module _ (a : places_sound ≡ true) where
      pub not_arrived : in_arrival (λ (o : Order). o.number) book ≡ false → false ≡ tested
      unfolding sound_fixed
      not_arrived b = rw (h, a, b)

      module _ (b : in_arrival (λ (o : Order). o.number) book ≡ true) where
        pub lined_so_far : fixed_fits d ≡ true → Lined book
        lined_so_far f =
            record {
              fair = places_fair d book ((says_fixed_day d).0 f).issued ((says_all (λ o. is_free o || is_order_of d d.fixed.issued o) (Place (as_fixed d)) (says_fixed_place d) book).0 a);
              arrived = b;
              few = few_places book h;
            }

        module _ {resting : ℕ} (f : fixed_fits d ≡ true) (r : resting ≡ total (λ (o : Order). o.left) book) where
          empty_told : is_empty book ≡ eqb resting 0
          empty_told = empty_is book (lined_so_far f).fair ∙ ap (λ n. eqb n 0) (sym r)

          pub resting_small : resting ≤ 4_096_000_000
          resting_small = omega (arith, shares_within book (lined_so_far f).fair (few_places book h))

          pub out_of_hours : {t : Bool} → t ≡ (between 33_300 55_799 d.time || eqb resting 0) → t ≡ false → false ≡ tested
          unfolding sound_fixed
          out_of_hours e z =
              let c : in_hours ≡ false = ap (λ x. between 33_300 55_799 d.time || x) empty_told ∙ sym e ∙ z in
              rw (h, a, b, c)

          module _ {t : Bool} (e : t ≡ (between 33_300 55_799 d.time || eqb resting 0)) (y : t ≡ true) where
            in_hours_lem : in_hours ≡ true
            in_hours_lem = ap (λ x. between 33_300 55_799 d.time || x) empty_told ∙ sym e ∙ y

            pub rests_wrong : rests_right d book ≡ false → false ≡ tested
            unfolding sound_fixed
            rests_wrong z = rw (h, a, b, in_hours_lem, z)

            pub sums_tell : rests_right d book ≡ true → {s : Bool} → s ≡ leb (2 * d.fixed.shares + resting) (1_000_000 * d.fixed.issued) → s ≡ tested
            unfolding sound_fixed fixed_sums
            sums_tell z g = rw (h, a, b, in_hours_lem, z, ← r) g
