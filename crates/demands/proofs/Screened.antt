-- The screen through an event: what a sound day's screen says of the trades so far, and that the updated one fits again.
-- Assumes nothing.
use Prim.Native.Nat.{ℕ}
use mathlib.Core.Path.{◌≡◌, refl, ap, ◌∙◌}
use mathlib.Core.Bool.{Bool, true, false, cond, ◌&&◌}
use mathlib.Core.List.{List, []}
use native.Mathlib.Omega.{arith}
use lib.Dec.{leb, eqb}
use borrow.Author.Tests.{eqb-true, eqb-false, ne_eqb}
use Rattle.model.specs.declared.Order.{Order}
use Rattle.model.specs.declared.Trade.{Trade}
use Rattle.model.specs.declared.Screen.{Screen}
use Rattle.model.specs.declared.Day.{Day}
use Rattle.model.specs.Matching.{filled, first_price, last_price, highest, lowest}
use Rattle.model.specs.Figures.{reference, published_shares, published_turnover}
use Rattle.model.specs.Halts.{runs, phase_now}
use Rattle.model.specs.Auction.{auction_price}
use Rattle.model.specs.Screen.{shown_price, screen_of, high_with, low_with, update}
use Rattle.model.specs.Sound.{encloses, screen_fits}
use Rattle.model.specs.Words.{Sound}
use Rattle.model.proofs.SameScreens.{fits_counted, fits_encloses, counted_fits}
use Rattle.soundness.proofs.Says.{Says, says_and, says_le, says_eq, says_too}
use Rattle.soundness.proofs.SoundDays.{sound_screen}
use Rattle.demands.specs.Totalling.{Totals}
use Rattle.demands.proofs.Wholes.{Traded}
use Rattle.demands.proofs.Extremes.{Between, first_between, further_between}

-- ---- what it says of the trades so far

-- low and high enclose first and last; all are 0 where nothing traded
pub record Enclosed (low high shares first last : ℕ) : Type 0 where
  pub none : shares ≡ 0 → (low ≡ 0) × (high ≡ 0)
  pub some : (shares ≡ 0 → ⊥) → Between low high first last

says_encloses : (d : Day) → Says (encloses d) (Enclosed d.screen.low d.screen.high d.shares d.first d.last)
unfolding encloses
says_encloses d = go (eqb d.shares 0) refl
  where
    low : ℕ
    low = d.screen.low

    high : ℕ
    high = d.screen.high

    go :
        (t : Bool)
        → eqb d.shares 0 ≡ t
        → Says
        (cond t (eqb low 0 && eqb high 0)
        (leb low d.first && leb d.first high && leb low d.last && leb d.last high))
        (Enclosed low high d.shares d.first d.last)
    go true e =
        let z : d.shares ≡ 0 = eqb-true d.shares 0 e in
        says_too (λ h. record { none = λ _. h; some = λ n. absurd (n z) }) (λ h. h.none z) (says_and (says_eq low 0) (says_eq high 0))
    go false e =
        let n : d.shares ≡ 0 → ⊥ = eqb-false d.shares 0 e in
        says_too
        (λ h. record { none = λ z. absurd (n z); some = λ _. (h.0.0.0, h.0.0.1, h.0.1, h.1) })
        (λ h. let b = h.some n in (((b.0, b.1), b.2), b.3))
        (says_and (says_and (says_and (says_le low d.first) (says_le d.first high)) (says_le low d.last)) (says_le d.last high))

pub record Shown (d : Day) : Type 0 where
  pub last : d.screen.last ≡ d.last
  pub enclosed : Enclosed d.screen.low d.screen.high d.shares d.first d.last

pub sound_counted :
    (d : Day) (book : List Order) → Sound d book → d.screen ≡ screen_of d book d.screen.high d.screen.low
sound_counted d book s = fits_counted d book (sound_screen d book s.1)

pub sound_shown : (d : Day) (book : List Order) → Sound d book → Shown d
sound_shown d book s =
    record {
      last = unfold screen_of in ap (λ (x : Screen). x.last) (sound_counted d book s);
      enclosed = (says_encloses d).0 (fits_encloses d book (sound_screen d book s.1));
    }

-- ---- high and low with an event's trades

module _ (b d : Day) (ts : List Trade) (k : Traded b) (some : filled ts ≡ 0 → ts ≡ []) (w : Shown b) (t : Totals b d ts) where
  -- nothing had traded
  begun : b.shares ≡ 0 → Enclosed (lowest (first_price 0 ts) ts) (highest (first_price 0 ts) ts) d.shares d.first d.last
  begun z =
      let first : d.first ≡ first_price 0 ts = t.first ∙ rw (k.untraded z).0 in
      let last : d.last ≡ last_price 0 ts = t.last ∙ rw (k.untraded z).1 in
      record {
        none = λ n.
            let e : ts ≡ [] = some (omega (arith, t.shares, z, n)) in
            rw e (unfold lowest in unfold highest in unfold first_price in (refl, refl));
        some = λ _. rw (first, last) (first_between ts);
      }

  gone_on :
      (b.shares ≡ 0 → ⊥)
      → Enclosed (lowest b.screen.low ts) (highest b.screen.high ts) d.shares d.first d.last
  gone_on n =
      let p = (k.traded n).0 in
      let first : d.first ≡ b.first = t.first ∙ rw (ne_eqb b.first 0 (λ z. omega (arith, z, p.low))) in
      record {
        none = λ z. absurd (n (omega (arith, t.shares, z)));
        some = λ _. rw (first, t.last) (further_between b.screen.low b.screen.high b.first b.last ts (w.enclosed.some n));
      }

  -- "nothing had traded" is read off the last price
  event_enclosed : Enclosed (low_with ts b.screen) (high_with ts b.screen) d.shares d.first d.last
  unfolding low_with high_with
  event_enclosed = go (eqb b.screen.last 0) refl (eqb b.shares 0) refl
    where
      go :
          (c : Bool)
          → eqb b.screen.last 0 ≡ c
          → (x : Bool)
          → eqb b.shares 0 ≡ x
          → Enclosed (lowest (cond c (first_price 0 ts) b.screen.low) ts) (highest (cond c (first_price 0 ts) b.screen.high) ts) d.shares
          d.first d.last
      go true e true f = begun (eqb-true b.shares 0 f)
      go true e false f =
          absurd (omega (arith, eqb-true b.screen.last 0 e, w.last, (k.traded (eqb-false b.shares 0 f)).1.low))
      go false e true f =
          absurd (eqb-false b.screen.last 0 e (w.last ∙ (k.untraded (eqb-true b.shares 0 f)).1))
      go false e false f = gone_on (eqb-false b.shares 0 f)

-- ---- the updated screen

-- the count reads no screen, so it is the same over the day that is handed back
pub update_counted :
    (ts : List Trade) (book : List Order) (d : Day)
    → (update ts book d).screen ≡ screen_of (update ts book d) book (high_with ts d.screen) (low_with ts d.screen)
unfolding update screen_of shown_price phase_now runs auction_price reference published_shares published_turnover
update_counted ts book d = refl

-- where the day still has the screen from before the event
pub update_fits :
    (b d : Day) (ts : List Trade) (book : List Order)
    → Traded b
    → (filled ts ≡ 0 → ts ≡ [])
    → Shown b
    → Totals b d ts
    → d.screen ≡ b.screen
    → screen_fits (update ts book d) book ≡ true
update_fits b d ts book k some w t same =
    counted_fits (update ts book d) book (counted (update_counted ts book d)) ((says_encloses (update ts book d)).1 enclosed)
  where
    counted :
        (update ts book d).screen ≡ screen_of (update ts book d) book (high_with ts d.screen) (low_with ts d.screen)
        → (update ts book d).screen ≡ screen_of (update ts book d) book (update ts book d).screen.high (update ts book d).screen.low
    counted e = unfold update in unfold screen_of in e

    enclosed :
        Enclosed (update ts book d).screen.low (update ts book d).screen.high (update ts book d).shares (update ts book d).first
        (update ts book d).last
    enclosed = unfold update in unfold screen_of in rw same (event_enclosed b d ts k some w t)
