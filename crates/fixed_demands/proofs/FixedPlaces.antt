-- The places of a sound fixed-price book: they stand, and each is still free or an order after trades, with another one behind them, without
-- some of them, and on a later day. So lined up they are a sound book again. Assumes nothing.
use Prim.Native.Nat.{ℕ, ◌+◌, ◌*◌, ◌≤◌, ◌<◌}
use mathlib.Core.Path.{◌≡◌, refl, ap, ◌∙◌}
use mathlib.Core.Logic.{◌⊎◌, inl, inr, ⊎_elim}
use mathlib.Core.Bool.{false}
use mathlib.Core.List.{List, [], ◌∷◌}
use native.Mathlib.Decide.{dec_lt}
use native.Mathlib.Omega.{arith}
use borrow.Author.Tests.{lt-ltb, le-ltb}
use Rattle.model.specs.declared.Order.{Order}
use Rattle.model.specs.declared.Trade.{Trade}
use Rattle.model.specs.declared.Day.{Day}
use Rattle.model.specs.Lists.{keep, total}
use Rattle.model.specs.Book.{free, is_live, stands_on}
use Rattle.model.specs.Matching.{filled_of, less_by, settle}
use Rattle.model.specs.Figures.{close_price}
use Rattle.model.specs.FixedBook.{is_void, lined}
use Rattle.model.specs.Words.{Each}
use Rattle.book.specs.Standing.{Standing}
use Rattle.book.proofs.Lists.{each}
use Rattle.book.proofs.Kept.{Less, after, after_less, free_left}
use Rattle.book.proofs.Sorting.{Rising}
use Rattle.book.proofs.Counting.{orders}
use Rattle.soundness.specs.SoundDay.{Rests, Place}
use Rattle.soundness.proofs.SoundDays.{standing}
use Rattle.arrivals.proofs.Lines.{taken, InLine, in_line}
use Rattle.fixed_demands.specs.FixedDay.{of_fixed, FixedDay}
use Rattle.fixed_demands.proofs.Lining.{nr, rising_apart, lined_each, lined_arrives, lined_total, lined_side}

-- ---- a place

-- the same share, at a later point of the day
pub record Later (d e : Day) : Type 0 where
  pub close : e.close ≡ d.close
  pub limited : e.limited ≡ d.limited
  pub issued : d.fixed.issued ≤ e.fixed.issued

rests_later : (d e : Day) → Later d e → (o : Order) → Rests (of_fixed d) o → Rests (of_fixed e) o
rests_later d e l o r =
    record {
      side = r.side;
      account = r.account;
      some = r.some;
      left = r.left;
      price = r.price;
      band = λ n. rw l.close (r.band (λ z. n (l.limited ∙ z)));
      numbered = r.numbered;
      issued = omega (arith, r.issued, l.issued);
    }

pub places_later : (d e : Day) → Later d e → (os : List Order) → Each (Place (of_fixed d)) os → Each (Place (of_fixed e)) os
places_later d e l os = each (Place (of_fixed d)) (Place (of_fixed e)) os (λ o p. ⊎_elim inl (λ r. inr (rests_later d e l o r)) p)

module _ (d : Day) where
  -- with q shares fewer
  rests_less : (q : ℕ) (o : Order) → Rests (of_fixed d) o → Place (of_fixed d) (less_by q o)
  unfolding less_by
  rests_less q o r = elim (dec_lt q o.left) [
    | yes l ↦
        rw (lt-ltb q o.left l)
        (inr
        (record {
          side = r.side;
          account = r.account;
          some = omega arith;
          left = omega (arith, r.left);
          price = r.price;
          band = r.band;
          numbered = r.numbered;
          issued = r.issued;
        }))
    | no l ↦ rw (le-ltb q o.left (omega arith)) (inl refl)
  ]

  free_less : (q : ℕ) → less_by q free ≡ free
  unfolding less_by
  free_less q = rw (le-ltb q free.left (omega (arith, free_left)))

  place_less : (q : ℕ) (o : Order) → Place (of_fixed d) o → Place (of_fixed d) (less_by q o)
  place_less q o (inl e) = inl (ap (less_by q) e ∙ free_less q)
  place_less q o (inr r) = rests_less q o r

  pub places_settled : (ts : List Trade) (os : List Order) → Each (Place (of_fixed d)) os → Each (Place (of_fixed d)) (settle ts os)
  unfolding settle
  places_settled ts [] p = tt
  places_settled ts (o ∷ os) p = (place_less (filled_of o.number ts) o p.0, places_settled ts os p.1)

  -- a free place has no shares
  pub untaken_none : (os : List Order) → Each (Place (of_fixed d)) os → Each (λ o. o.number ≡ 0 → o.left ≡ 0) os
  untaken_none os =
      each (Place (of_fixed d)) (λ o. o.number ≡ 0 → o.left ≡ 0) os
      (λ o p z. ⊎_elim (λ e. ap (λ (x : Order). x.left) e ∙ free_left) (λ (r : Rests (of_fixed d) o). absurd (omega (arith, r.numbered))) p)

-- ---- nobody gets a limit on the wrong side of the close

free_right : (close : ℕ) → is_void close free ≡ false
unfolding is_void is_live free
free_right close = refl

same_void : (close : ℕ) (o p : Order) → o.side ≡ p.side → o.price ≡ p.price → o.number ≡ p.number → is_void close p ≡ is_void close o
unfolding is_void is_live
same_void close o p s l n = rw (s, l, n)

pub settled_right : (close : ℕ) (ts : List Trade) (os : List Order) → Each (λ o. is_void close o ≡ false) os → Each (λ o. is_void close o ≡ false) (settle ts os)
unfolding settle
settled_right close ts [] e = tt
settled_right close ts (o ∷ os) e = (go (after_less ts o), settled_right close ts os e.1)
  where
    go : (after ts o ≡ free) ⊎ Less o (after ts o) → is_void close (after ts o) ≡ false
    go (inl z) = ap (is_void close) z ∙ free_right close
    go (inr l) = same_void close o (after ts o) l.side l.price l.number ∙ e.0

-- ---- a sound book

module _ (d : Day) (book : List Order) (f : FixedDay d book) where
  pub book_line : InLine nr book
  book_line = in_line nr book f.line

  pub book_stands : d.fixed.issued ≤ 999_999 → Standing book
  book_stands l = standing (of_fixed d) book l f.places (rising_apart 0 book book_line.rises)

pub lined_day :
    (d : Day) (n : ℕ) (os : List Order)
    → Each (Place (of_fixed d)) os
    → Rising nr 0 (taken nr os)
    → orders os ≤ n
    → 33_300 ≤ d.time
    → d.time < 55_800
    → (54_300 ≤ d.time → (keep (stands_on 0) os ≡ []) ⊎ (keep (stands_on 1) os ≡ []))
    → (54_300 ≤ d.time → Each (λ o. is_void (close_price d) o ≡ false) os)
    → 2 * d.fixed.shares + total (λ (o : Order). o.left) os ≤ 1_000_000 * d.fixed.issued
    → FixedDay d (lined n os)
lined_day d n os places rises fit from until one_sided_lem right sums =
    record {
      places = lined_each (Place (of_fixed d)) n os (inl refl) places;
      line = lined_arrives n os rises;
      early = λ l. absurd (omega arith);
      ended = λ l. absurd (omega arith);
      one_sided = λ l. ⊎_elim (λ e. inl (lined_side n os fit 0 ∙ e)) (λ e. inr (lined_side n os fit 1 ∙ e)) (one_sided_lem l);
      none_void = λ l. lined_each (λ o. is_void (close_price d) o ≡ false) n os (free_right (close_price d)) (right l);
      sums = omega (arith, lined_total n os fit (λ (o : Order). o.left) free_left (untaken_none d os places));
    }
