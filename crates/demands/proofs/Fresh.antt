-- An empty book: it fits every day, and an accepted opening gives a sound day. Assumes nothing.
use Rattle.std.specs.Prelude.{if◌then◌else◌}
use Prim.Native.Nat.{ℕ, ◌≤◌}
use mathlib.Core.Path.{◌≡◌, refl, sym, ap, ◌∙◌}
use mathlib.Core.Logic.{inl}
use mathlib.Core.Bool.{Bool, true, false, not, ◌&&◌}
use mathlib.Core.List.{List, [], ◌∷◌}
use native.Mathlib.Omega.{arith}
use native.Mathlib.Nat.{mul-zero}
use lib.ListN.{length, length-map}
use lib.Dec.{eqb}
use Rattle.model.specs.declared.Order.{Order}
use Rattle.model.specs.declared.Day.{Day}
use Rattle.model.specs.declared.OpenReply as OpenReply
use Rattle.model.specs.Lists.{any, total, among, once}
use Rattle.model.specs.Limits.{is_price}
use Rattle.model.specs.Clock.{closed, later_rows, holding, row_at, phase_at, continuous, day_end}
use Rattle.model.specs.Book.{free, in_priority, queue}
use Rattle.model.specs.Matching.{five_best}
use Rattle.model.specs.Figures.{no_levels, no_screen, fresh_day, close_price, published_shares, published_turnover}
use Rattle.model.specs.Halts.{phase_now}
use Rattle.model.specs.Screen.{levels_of, shown_price, screen_of}
use Rattle.model.specs.Sound.{is_mark, has_places, encloses, screen_fits}
use Rattle.model.specs.Refusals.{◌when◌, first_of}
use Rattle.model.specs.Calls.{OpenOutcome, cleared, open_rules, open_call}
use Rattle.model.proofs.Bools.{and_left, and_right}
use Rattle.model.proofs.SameScreens.{counted_fits}
use Rattle.model.specs.Words.{Apart, Sound}
use Rattle.book.proofs.Lists.{each, total_zero}
use Rattle.book.proofs.Kept.{free_left, free_number}
use Rattle.book.proofs.Parts.{keep_frees}
use Rattle.book.proofs.Arranging.{cleared_frees, cleared_ranked}
use Rattle.soundness.specs.SoundDay.{Place, Empty, HaltDay, EveningDay}
use Rattle.soundness.proofs.Says.{says_le}
use Rattle.soundness.proofs.Clauses.{says_price}
use Rattle.soundness.proofs.SoundDays.{day_sound, few_places}
use Rattle.demands.proofs.Wholes.{Whole, Timely, sound_of}

pub cleared_empty : (book : List Order) → Empty (cleared book)
unfolding cleared
cleared_empty [] = tt
cleared_empty (o ∷ os) = (refl, cleared_empty os)

empty_apart : (book : List Order) → Empty book → Apart book
empty_apart [] e = tt
empty_apart (o ∷ os) e = (
  each (λ p. p ≡ free) (λ p. p.number ≡ o.number → o.number ≡ 0) os (λ p f n. ap (λ (x : Order). x.number) e.0 ∙ free_number) e.1,
  empty_apart os e.1,
)

pub empty_total : (book : List Order) → Empty book → total (λ (o : Order). o.left) book ≡ 0
empty_total book e =
    total_zero (λ (o : Order). o.left) book
    (each (λ o. o ≡ free) (λ (o : Order). o.left ≡ 0) book (λ o f. ap (λ (x : Order). x.left) f ∙ free_left) e)

pub places_cleared : (book : List Order) → has_places book ≡ true → has_places (cleared book) ≡ true
unfolding has_places cleared
places_cleared book e = rw (length-map book (λ (_ : Order). free)) e

-- once every place is free, whatever rested before
pub whole_cleared : (d : Day) (before : List Order) (book : List Order) → Whole d before → Empty book → Whole d book
whole_cleared d before book w e =
    record {
      close = w.close;
      limited = w.limited;
      issued = w.issued;
      places = each (λ o. o ≡ free) (Place d) book (λ o f. inl f) e;
      apart = empty_apart book e;
      shares = omega (arith, empty_total book e, w.shares);
      figures = w.figures;
    }

-- and nobody stands on either side
no_levels_lem : (side : ℕ) (book : List Order) → levels_of side (cleared book) ≡ no_levels
unfolding levels_of five_best once no_levels queue in_priority
no_levels_lem side book = rw (cleared_frees book, keep_frees side (length book))

-- ---- an opening

module _ (close mark : ℕ) where
  fresh_whole : is_price close ≡ true → mark ≤ 1 → Whole (fresh_day close mark) []
  unfolding fresh_day total
  fresh_whole p m =
      record {
        close = (says_price close).0 p;
        limited = m;
        issued = omega arith;
        places = tt;
        apart = tt;
        shares = omega arith;
        figures =
            record {
              untraded = λ _. (refl, refl);
              traded = λ n. absurd (n refl);
              least = omega arith;
              most = omega arith;
            };
      }

  fresh_timely : (book : List Order) → Empty book → Timely (fresh_day close mark).time (fresh_day close mark).halt book
  unfolding fresh_day
  fresh_timely book e =
      record { time = omega arith; early = λ _. e; late = λ _. e; uncrossed = λ a b z. absurd (omega arith) }

  -- no threshold is used and no halt runs
  fresh_halt : HaltDay (fresh_day close mark)
  unfolding fresh_day
  fresh_halt =
      record {
        thirty = omega arith;
        sixty = omega arith;
        ahead = λ n. absurd (n refl);
        led = λ n. absurd (n refl);
        thirty_first = λ z. absurd (omega (arith, z));
        uses = λ n. absurd (n refl);
        unlimited = λ z. absurd (omega (arith, z));
      }

  -- and nothing is issued or traded of the other lists
  fresh_evening : EveningDay (fresh_day close mark)
  unfolding fresh_day
  fresh_evening =
      record {
        fixed_issued = omega arith;
        fixed_shares = omega arith;
        fixed_money = sym (mul-zero (close_price (fresh_day close mark)));
        none_yet = λ _. refl;
        blocks_issued = omega arith;
        blocks_shares = omega arith;
      }

  module _ (book : List Order) where
    -- nothing is shown: midnight is in no phase, and the fresh count is all zero
    fresh_screen : screen_of (fresh_day close mark) (cleared book) 0 0 ≡ no_screen
    unfolding fresh_day screen_of published_shares published_turnover day_end shown_price phase_now phase_at row_at holding later_rows closed continuous no_screen among any
    fresh_screen = rw (no_levels_lem 0 book, no_levels_lem 1 book)

    fresh_fits : screen_fits (fresh_day close mark) (cleared book) ≡ true
    unfolding fresh_day no_screen encloses
    fresh_fits = counted_fits (fresh_day close mark) (cleared book) (sym fresh_screen) refl

    abbrev may : Bool
    may = is_price close && is_mark mark && has_places book

    pub fresh_sound : may ≡ true → Sound (fresh_day close mark) (cleared book)
    unfolding is_mark
    fresh_sound e =
        let h = and_left (is_price close && is_mark mark) (has_places book) e in
        let p = and_left (is_price close) (is_mark mark) h in
        let m : mark ≤ 1 = (says_le mark 1).0 (and_right (is_price close) (is_mark mark) h) in
        let many = and_right (is_price close && is_mark mark) (has_places book) e in
        let n = cleared_empty book in (
          places_cleared book many,
          day_sound (fresh_day close mark) (cleared book)
              (sound_of (fresh_day close mark) (cleared book)
              (whole_cleared (fresh_day close mark) [] (cleared book) (fresh_whole p m) n)
              (fresh_timely (cleared book) n))
              (cleared_ranked book (few_places book many)).ordered
              fresh_fits
              fresh_halt
              fresh_evening,
        )

    abbrev opened : Bool → OpenOutcome
    opened b =
        if b
        then record { reply = OpenReply.TheVariants.Opened (fresh_day close mark); book = cleared book }
        else record { reply = OpenReply.TheVariants.Refused 14; book = book }

    open_by_lem : open_call close mark book ≡ opened may
    unfolding open_call open_rules first_of ◌when◌
    open_by_lem = go may
      where
        go :
            (b : Bool)
            → (if eqb (if not b then 14 else 0) 0
            then record { reply = OpenReply.TheVariants.Opened (fresh_day close mark); book = cleared book }
            else record { reply = OpenReply.TheVariants.Refused (if not b then 14 else 0); book = book })
            ≡ opened b
        go true = refl
        go false = refl

    pub open_fresh :
        (d : Day)
        → (open_call close mark book).reply ≡ OpenReply.TheVariants.Opened d
        → Sound d (open_call close mark book).book
    open_fresh d e = rw open_by_lem (go may refl (rw open_by_lem at e))
      where
        go : (b : Bool) → may ≡ b → (opened b).reply ≡ OpenReply.TheVariants.Opened d → Sound d (opened b).book
        go true m r = let k : fresh_day close mark ≡ d = cc in rw (← k) (fresh_sound m)
        go false m r = let z : ◌≡◌ {A = ℕ} 0 1 = cc in absurd (omega arith)

    pub open_screen :
        (d : Day)
        → (open_call close mark book).reply ≡ OpenReply.TheVariants.Opened d
        → (d.screen ≡ no_screen) × (screen_of d (open_call close mark book).book 0 0 ≡ no_screen)
    open_screen d e = rw open_by_lem (go may (rw open_by_lem at e))
      where
        go :
            (b : Bool)
            → (opened b).reply ≡ OpenReply.TheVariants.Opened d
            → (d.screen ≡ no_screen) × (screen_of d (opened b).book 0 0 ≡ no_screen)
        go true r = let k : fresh_day close mark ≡ d = cc in rw (← k) (blank, fresh_screen)
          where
            blank : (fresh_day close mark).screen ≡ no_screen
            blank = unfold fresh_day in refl
        go false r = let z : ◌≡◌ {A = ℕ} 0 1 = cc in absurd (omega arith)

    pub open_call_lem : (d : Day) → (open_call close mark book).reply ≡ OpenReply.TheVariants.Opened d → d ≡ fresh_day close mark
    open_call_lem d e = go may (rw open_by_lem at e)
      where
        go : (b : Bool) → (opened b).reply ≡ OpenReply.TheVariants.Opened d → d ≡ fresh_day close mark
        go true r = cc
        go false r = let z : ◌≡◌ {A = ℕ} 0 1 = cc in absurd (omega arith)
