-- A sound day: the test and the record of its facts say the same, and its book stands in order. Assumes nothing.
use Prim.Native.Nat.{ℕ, suc, ◌≤◌, ◌<◌}
use mathlib.Core.Path.{◌≡◌, refl, ap, ◌∙◌}
use mathlib.Core.Logic.{⊎_elim}
use mathlib.Core.Bool.{Bool, true, false, ◌&&◌, ◌||◌}
use mathlib.Core.List.{List}
use native.Mathlib.Omega.{arith}
use native.Mathlib.Nat.{lt_of_not-le, not-le_of_lt}
use lib.ListN.{length}
use lib.Dec.{ltb, leb, eqb}
use borrow.Author.Tests.{ltb-true, ltb-false, leb-true, eqb-true, eqb-false}
use Rattle.model.specs.declared.Order.{Order}
use Rattle.model.specs.declared.Day.{Day}
use Rattle.model.specs.Book.{free, in_order}
use Rattle.model.specs.Figures.{next_number}
use Rattle.model.specs.Sound.{has_places, is_free, is_order, screen_fits, halt_fits, fixed_fits, blocks_fit, sound_anywhere, sound}
use Rattle.model.proofs.Bools.{and_left, and_right, and_both}
use Rattle.model.specs.Words.{Each, Apart, Ordered}
use Rattle.book.specs.Standing.{Fair, Standing, Ranked}
use Rattle.book.proofs.Lists.{each, both}
use Rattle.book.proofs.Kept.{New, fair_free, free_number}
use Rattle.book.proofs.Orderly.{told_ordered, ordered_told}
use Rattle.soundness.specs.SoundDay.{Rests, Place, Empty, SoundDay, HaltDay, EveningDay, stands_sound}
use Rattle.soundness.proofs.Numbers.{issued_number}
use Rattle.soundness.proofs.Says.{Says, says_and, says_unless, says_too, says_not, says_all}
use Rattle.soundness.proofs.Clauses.{says_place, says_between, says_empty, says_apart, says_crosses, says_figures, says_fit, says_traded, says_turnover}
use Rattle.soundness.proofs.HaltClauses.{says_runs, says_halt}
use Rattle.soundness.proofs.EveningClauses.{says_evening}

-- ---- an empty book: no number, so every place is free

numberless : (d : Day) (o : Order) → Place d o → o.number ≡ 0 → o ≡ free
numberless d o p n = ⊎_elim (λ e. e) (λ (r : Rests d o). absurd (omega (arith, r.numbered))) p

no_number : (o : Order) → o ≡ free → o.number ≡ 0
no_number o e = ap (λ (x : Order). x.number) e ∙ free_number

emptied : (d : Day) (book : List Order) → Each (Place d) book → Each (λ o. o.number ≡ 0) book → Empty book
emptied d book = both (Place d) (λ o. o.number ≡ 0) (λ o. o ≡ free) book (numberless d)

-- ---- the hours

module _ (book : List Order) (t : ℕ) where
  outside :
      (t < 33_300 → Empty book) → (54_000 ≤ t → Empty book) → ((33_300 ≤ t) × (t ≤ 53_999) → ⊥) → Empty book
  outside early late n = go (ltb t 33_300) refl
    where
      go : (b : Bool) → ltb t 33_300 ≡ b → Empty book
      go true e = early (ltb-true t 33_300 e)
      go false e = late (lt_of_not-le (λ h. n (ltb-false t 33_300 e, h)))

-- ---- the test and the record

-- no halt runs
halted_not : (n : ℕ) → ((n ≡ 0 → ⊥) → ⊥) → n ≡ 0
halted_not n h = go (eqb n 0) refl
  where
    go : (b : Bool) → eqb n 0 ≡ b → n ≡ 0
    go true e = eqb-true n 0 e
    go false e = absurd (h (eqb-false n 0 e))

pub says_anywhere : (d : Day) (book : List Order) → Says (sound_anywhere d book) (SoundDay d book)
unfolding sound_anywhere
says_anywhere d book =
    says_too
    (λ h.
    let figures = h.0.0.0.0.0.0.0 in
    let places = h.0.0.0.0.0.0.1 in
    let hours = h.0.0.0.0.1 in
    let crossed = h.0.0.0.1 in
    record {
      close = figures.0;
      limited = figures.1;
      time = figures.2;
      issued = figures.3;
      places = places;
      apart = h.0.0.0.0.0.1;
      early = λ l. emptied d book places (hours (λ w. not-le_of_lt l w.0));
      late = λ l. emptied d book places (hours (λ w. not-le_of_lt l w.1));
      uncrossed = λ a b z m n. lt_of_not-le (λ l. crossed (((a, b), λ r. r z), (m, n, l)));
      shares = h.0.0.1;
      untraded = h.0.1.0;
      traded = h.0.1.1;
      least = h.1.0;
      most = h.1.1;
    })
    (λ s. (
      (
        (
          (
            (
              (((s.close, s.limited, s.time, s.issued), s.places), s.apart),
              λ n. each (λ o. o ≡ free) (λ o. o.number ≡ 0) book no_number (outside book d.time s.early s.late n),
            ),
            λ w. not-le_of_lt (s.uncrossed w.0.0.0 w.0.0.1 (halted_not d.halt w.0.1) w.1.0 w.1.1) w.1.2,
          ),
          s.shares,
        ),
        (s.untraded, s.traded),
      ),
      (s.least, s.most),
    ))
    (says_and
    (says_and
    (says_and
    (says_and
    (says_and
    (says_and
    (says_and (says_figures d) (says_all (λ o. is_free o || is_order d o) (Place d) (says_place d) book))
    (says_apart book))
    (says_unless (says_between 33_300 53_999 d.time) (says_empty book)))
    (says_not (says_and (says_and (says_between 33_900 53_819 d.time) (says_not (says_runs d))) (says_crosses book))))
    (says_fit d book))
    (says_traded d))
    (says_turnover d))

-- ---- what stands

pub fair_place : (d : Day) (o : Order) → d.issued ≤ 999_999 → Place d o → Fair o
fair_place d o l p =
    ⊎_elim
    (λ e. rw e fair_free)
    (λ (r : Rests d o).
    let h = r.price in
    let n : o.number ≡ 0 → ⊥ = λ (z : o.number ≡ 0). absurd (omega (arith, r.numbered)) in
    record {
      side = r.side;
      price = h.high;
      number = omega arith;
      left = r.left;
      none = λ z. absurd (n z);
      some = λ _. r.some;
      priced = λ _. h.low;
    })
    p

pub standing : (d : Day) (book : List Order) → d.issued ≤ 999_999 → Each (Place d) book → Apart book → Standing book
standing d book l p a = record { fair = each (Place d) Fair book (λ o h. fair_place d o l h) p; apart = a }

pub day_stands : (d : Day) (book : List Order) → SoundDay d book → Standing book
day_stands d book s = standing d book s.issued s.places s.apart

-- ---- the whole test: the facts, the order of the places, the screen, the halt and the figures of the other lists

module _ (d : Day) (book : List Order) where
  abbrev orderly : Bool
  orderly = sound_anywhere d book && in_order book

  abbrev until_halt : Bool
  until_halt = orderly && screen_fits d book && halt_fits d

  until_halt_lem : sound d book ≡ true → until_halt ≡ true
  unfolding sound
  until_halt_lem e = and_left until_halt (fixed_fits d) (and_left (until_halt && fixed_fits d) (blocks_fit d) e)

  stands_of : sound d book ≡ true → stands_sound d book ≡ true
  stands_of e =
      let u : until_halt ≡ true = until_halt_lem e in
      let h : (orderly && screen_fits d book) ≡ true = and_left (orderly && screen_fits d book) (halt_fits d) u in
      and_both (and_left orderly (screen_fits d book) h) (and_right (orderly && screen_fits d book) (halt_fits d) u)

  pub stands_day : stands_sound d book ≡ true → SoundDay d book
  stands_day e = (says_anywhere d book).0 (and_left (sound_anywhere d book) (in_order book) (and_left orderly (halt_fits d) e))

  stands_ordered : stands_sound d book ≡ true → Ordered book
  stands_ordered e =
      told_ordered book (day_stands d book (stands_day e)) (and_right (sound_anywhere d book) (in_order book) (and_left orderly (halt_fits d) e))

  pub sound_day : sound d book ≡ true → SoundDay d book
  sound_day e = stands_day (stands_of e)

  pub sound_ordered : sound d book ≡ true → Ordered book
  sound_ordered e = stands_ordered (stands_of e)

  pub sound_screen : sound d book ≡ true → screen_fits d book ≡ true
  sound_screen e = and_right orderly (screen_fits d book) (and_left (orderly && screen_fits d book) (halt_fits d) (until_halt_lem e))

  pub sound_halt : sound d book ≡ true → HaltDay d
  sound_halt e = (says_halt d).0 (and_right (orderly && screen_fits d book) (halt_fits d) (until_halt_lem e))

  pub sound_evening : sound d book ≡ true → EveningDay d
  unfolding sound
  sound_evening e =
      let f : (until_halt && fixed_fits d) ≡ true = and_left (until_halt && fixed_fits d) (blocks_fit d) e in
      (says_evening d).0 (and_both (and_right until_halt (fixed_fits d) f) (and_right (until_halt && fixed_fits d) (blocks_fit d) e))

  pub day_sound :
      SoundDay d book → Ordered book → screen_fits d book ≡ true → HaltDay d → EveningDay d → sound d book ≡ true
  unfolding sound
  day_sound s o f h v =
      let w : (fixed_fits d && blocks_fit d) ≡ true = (says_evening d).1 v in
      and_both
      (and_both
      (and_both
      (and_both (and_both ((says_anywhere d book).1 s) (ordered_told book (day_stands d book s) o)) f)
      ((says_halt d).1 h))
      (and_left (fixed_fits d) (blocks_fit d) w))
      (and_right (fixed_fits d) (blocks_fit d) w)

pub few_places : (book : List Order) → has_places book ≡ true → length book ≤ 4_096
unfolding has_places
few_places book e = leb-true (length book) 4_096 (and_right (leb 1 (length book)) (leb (length book) 4_096) e)

pub standing_ranked : (d : Day) (book : List Order) → has_places book ≡ true → stands_sound d book ≡ true → Ranked book
standing_ranked d book p e =
    record {
      stands = day_stands d book (stands_day d book e);
      few = few_places book p;
      ordered = stands_ordered d book e;
    }

pub ranked : (d : Day) (book : List Order) → (has_places book && sound d book) ≡ true → Ranked book
ranked d book e =
    standing_ranked d book (and_left (has_places book) (sound d book) e) (stands_of d book (and_right (has_places book) (sound d book) e))

-- ---- the next number is new

pub next_new : (d : Day) (book : List Order) → SoundDay d book → New (next_number d) book
unfolding next_number
next_new d book s =
    record {
      real = λ z. omega arith;
      fresh = each (Place d) (λ o. o.number ≡ suc d.issued → ⊥) book (λ o h z. omega (arith, issued_number d o h)) s.places;
    }
