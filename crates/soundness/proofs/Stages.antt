-- The test of a day in its stages: once its places are sound and in order the book stands so, and the sum of its shares serves for
-- the tests behind. Assumes nothing.
use Prim.Native.Nat.{ℕ, ◌+◌, ◌*◌, ◌≤◌}
use mathlib.Core.Path.{◌≡◌, refl, sym, ap, ◌∙◌}
use mathlib.Core.Bool.{Bool, true, false, not, ◌&&◌, ◌||◌, and-true, and-false}
use mathlib.Core.List.{List}
use native.Mathlib.Omega.{arith}
use lib.Dec.{leb, eqb}
use Rattle.model.specs.declared.Order.{Order}
use Rattle.model.specs.declared.Day.{Day}
use Rattle.model.specs.Lists.{all, total}
use Rattle.model.specs.Figures.{close_price}
use Rattle.model.specs.Sound.{has_places, sound_figures, own_numbers, is_empty, crosses, between, shares_fit, prices_fit, turnover_fits, screen_fits, halt_fits, fixed_fits, blocks_fit, sound_anywhere, sound}
use Rattle.model.specs.Book.{in_order}
use Rattle.model.specs.Halts.{runs}
use Rattle.model.proofs.Bools.{and_left, and_right}
use Rattle.book.specs.Standing.{Standing, Ranked}
use Rattle.book.proofs.Orderly.{told_ordered}
use Rattle.figures.specs.Figures.{Publishable}
use Rattle.soundness.specs.SoundDay.{SoundDay, stands_sound}
use Rattle.soundness.proofs.Clauses.{sits, whole, says_whole, says_figures}
use Rattle.soundness.proofs.EveningClauses.{says_evening, close_small, publishable}
use Rattle.soundness.proofs.SoundDays.{standing, few_places, standing_ranked, stands_day}
use Rattle.soundness.proofs.Totals.{empty_is, shares_within}

-- the tests on the day's figures, on each place, on their order and on the halt have passed
pub record Seated (d : Day) (book : List Order) : Type 0 where
  pub counted : has_places book ≡ true
  pub figures : sound_figures d ≡ true
  pub places : whole d book ≡ true
  pub order : in_order book ≡ true
  pub halt : halt_fits d ≡ true

-- they are tested together
abbrev pub seats : Day → List Order → Bool
seats d book = has_places book && sound_figures d && whole d book && in_order book && halt_fits d

pub seated : (d : Day) (book : List Order) → seats d book ≡ true → Seated d book
seated d book e =
    let h = and_left (has_places book && sound_figures d && whole d book && in_order book) (halt_fits d) e in
    let o = and_left (has_places book && sound_figures d && whole d book) (in_order book) h in
    let w = and_left (has_places book && sound_figures d) (whole d book) o in
    record {
      counted = and_left (has_places book) (sound_figures d) w;
      figures = and_right (has_places book) (sound_figures d) w;
      places = and_right (has_places book && sound_figures d) (whole d book) o;
      order = and_right (has_places book && sound_figures d && whole d book) (in_order book) h;
      halt = and_right (has_places book && sound_figures d && whole d book && in_order book) (halt_fits d) e;
    }

-- the tests in another order
seats_first :
    (p f v w o h a b c t u : Bool)
    → (p && (f && v && w && a && b && c && t && u && o && h)) ≡ ((p && f && (v && w) && o && h) && (a && b && c && t && u))
seats_first false f v w o h a b c t u = refl
seats_first true false v w o h a b c t u = refl
seats_first true true false w o h a b c t u = refl
seats_first true true true false o h a b c t u = refl
seats_first true true true true o h a b c t u = go o h (a && b && c && t && u)
  where
    go : (o h x : Bool) → (x && o && h) ≡ ((o && h) && x)
    go true true x = and-true (x && true) ∙ and-true x
    go true false x = and-false (x && true)
    go false h x = ap (λ y. y && h) (and-false x)

module _ (d : Day) (book : List Order) where
  abbrev rest : Bool
  rest =
      (between 33_300 53_999 d.time || is_empty book)
      && not (between 33_900 53_819 d.time && not (runs d) && crosses book)
      && shares_fit d book
      && prices_fit d
      && turnover_fits d

  seats_then : (has_places book && stands_sound d book) ≡ (seats d book && rest)
  unfolding sound_anywhere
  seats_then =
      seats_first (has_places book) (sound_figures d) (all (sits d) book) (own_numbers book) (in_order book) (halt_fits d)
      (between 33_300 53_999 d.time || is_empty book)
      (not (between 33_900 53_819 d.time && not (runs d) && crosses book))
      (shares_fit d book)
      (prices_fit d)
      (turnover_fits d)

  pub seats_fail : seats d book ≡ false → false ≡ (has_places book && stands_sound d book)
  seats_fail e = sym (seats_then ∙ rw e refl)

module _ (d : Day) (book : List Order) (s : Seated d book) where
  pub seated_issued : d.issued ≤ 999_999
  seated_issued = ((says_figures d).0 s.figures).3

  seated_stands : Standing book
  seated_stands = let h = (says_whole d book).0 s.places in standing d book seated_issued h.0 h.1

  pub seated_ranked : Ranked book
  seated_ranked =
      record {
        stands = seated_stands;
        few = few_places book s.counted;
        ordered = told_ordered book seated_stands s.order;
      }

  module _ (resting : ℕ) (r : resting ≡ total (λ (o : Order). o.left) book) where
    pub resting_small : resting ≤ 4_096_000_000
    resting_small = omega (arith, shares_within book seated_stands.fair (few_places book s.counted))

    -- what is left of the test, told from the sum
    pub still_to_pass :
        {t : Bool}
        → t
        ≡ ((between 33_300 53_999 d.time || eqb resting 0)
        && not (between 33_900 53_819 d.time && not (runs d) && crosses book)
        && leb (2 * d.shares + resting) (1_000_000 * d.issued)
        && prices_fit d
        && turnover_fits d)
        → seats d book ≡ true
        → t ≡ (has_places book && stands_sound d book)
    unfolding shares_fit
    still_to_pass e f = e ∙ rw r (sym (seats_then d book ∙ rw (f, empty_is book seated_stands.fair) refl))

-- ---- the figures of the other lists, and the screen last

screen_last : (p a o s h f k : Bool) → (p && (a && o && s && h && f && k)) ≡ (((p && (a && o && h)) && (f && k)) && s)
screen_last true true true true true f k = sym (and-true (f && k))
screen_last true true true true false f k = refl
screen_last true true true false true f k = sym (and-false (f && k))
screen_last true true true false false f k = refl
screen_last true true false s h f k = refl
screen_last true false o s h f k = refl
screen_last false a o s h f k = refl

module _ (d : Day) (book : List Order) where
  abbrev stands : Bool
  stands = has_places book && stands_sound d book

  abbrev fits : Bool
  fits = fixed_fits d && blocks_fit d

  pub then_screen : (has_places book && sound d book) ≡ ((stands && fits) && screen_fits d book)
  unfolding sound
  then_screen =
      screen_last (has_places book) (sound_anywhere d book) (in_order book) (screen_fits d book) (halt_fits d) (fixed_fits d) (blocks_fit d)

  module _ (e : stands ≡ true) where
    stands_so : SoundDay d book
    stands_so = stands_day d book (and_right (has_places book) (stands_sound d book) e)

    pub stands_ranked : Ranked book
    stands_ranked =
        let h : stands_sound d book ≡ true = and_right (has_places book) (stands_sound d book) e in
        standing_ranked d book (and_left (has_places book) (stands_sound d book) e) h

    pub stands_close : close_price d ≤ 999_999
    stands_close = close_small d book stands_so

    pub stands_publishable : fits ≡ true → Publishable d
    stands_publishable f = publishable d book stands_so ((says_evening d).0 f)
