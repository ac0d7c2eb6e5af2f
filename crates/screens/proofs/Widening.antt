-- High and low with the trades of an event, one after the other. Assumes nothing.
use Prim.Native.Nat.{ℕ, suc, ◌+◌, ◌-◌, ◌≤◌, ◌<◌}
use mathlib.Core.Path.{◌≡◌, refl, sym, ap, ◌∙◌}
use mathlib.Core.List.{List, [], ◌∷◌}
use native.Mathlib.Omega.{arith}
use native.Mathlib.Numerals.{add-one}
use lib.ListN.{length, get_or, take, drop, drop_of_length-le}
use lib.Seq.{drop-cons}
use borrow.Author.Tests.{eq-eqb, ne_eqb}
use Rattle.model.specs.declared.Trade.{Trade}
use Rattle.model.specs.declared.Screen.{Screen}
use Rattle.model.specs.Matching.{first_price, highest, lowest, no_trade}
use Rattle.model.specs.Screen.{high_with, low_with}
use Rattle.figures.proofs.Tallies.{first_of_lem}
use Rattle.screens.specs.declared.Range.{Range}
use Rattle.screens.specs.Ranges.{widened, range_of, range_with}

range_none : (r : Range) → range_of [] r ≡ r
unfolding range_of highest lowest
range_none r = refl

range_more : (t : Trade) (ts : List Trade) (r : Range) → range_of (t ∷ ts) r ≡ range_of ts (widened r t.price)
unfolding range_of widened highest lowest
range_more t ts r = refl

-- what the trades still to come make of the range is what all make of its start
pub record Widening (ts : List Trade) (start range : Range) (i : ℕ) : Type 0 where
  pub rest : range_of (drop i ts) range ≡ range_of ts start

module _ (ts : List Trade) where
  pub widening_start : (start : Range) → Widening ts start start 0
  widening_start start = record { rest = refl }

  module _ {start range : Range} {i : ℕ} (k : Widening ts start range i) where
    pub widening_next : {r : Range} → i < length ts → r ≡ widened range (get_or ts i no_trade).price → Widening ts start r (i + 1)
    widening_next {r} h f =
        record {
          rest =
              rw f
              (sym (range_more (get_or ts i no_trade) (drop (i + 1) ts) range)
              ∙ ap (λ (l : List Trade). range_of (get_or ts i no_trade ∷ l) range) (ap (λ (n : ℕ). drop n ts) (add-one i))
              ∙ ap (λ (l : List Trade). range_of l range) (sym (drop-cons ts i no_trade h))
              ∙ k.rest);
        }

    pub widening_end : length ts ≤ i → range ≡ range_of ts start
    widening_end h =
        sym (range_none range) ∙ ap (λ (l : List Trade). range_of l range) (sym (drop_of_length-le ts h)) ∙ k.rest

-- ---- from the screen's, or from the first trade

module _ (s : Screen) (rows : List Trade) (n : ℕ) where
  pub range_goes_on :
      {r : Range}
      → (s.last ≡ 0 → ⊥)
      → r ≡ range_of (take n rows) (record { high = s.high; low = s.low })
      → r ≡ range_with (take n rows) s
  unfolding range_with range_of high_with low_with
  range_goes_on z e = rw (ne_eqb s.last 0 z) e

  module _ (z : s.last ≡ 0) where
    pub range_nothing : n ≡ 0 → record { high = 0; low = 0 } ≡ range_with (take n rows) s
    unfolding range_with high_with low_with highest lowest first_price
    range_nothing e = rw (e, eq-eqb s.last 0 z)

    pub range_begins :
        {t : Trade} {r : Range}
        → (n ≡ 0 → ⊥)
        → n ≤ length rows
        → t ≡ get_or rows 0 no_trade
        → r ≡ range_of (take n rows) (record { high = t.price; low = t.price })
        → r ≡ range_with (take n rows) s
    unfolding range_with range_of high_with low_with
    range_begins {t} {r} m l e f =
        let c : n ≡ suc (n - 1) = omega arith in
        let p : t.price ≡ first_price 0 (take n rows) =
        ap (λ (x : Trade). x.price) e
        ∙ sym (first_of_lem rows (n - 1) (omega arith))
        ∙ ap (λ (i : ℕ). first_price 0 (take i rows)) (sym c)
        in
        f ∙ rw (eq-eqb s.last 0 z, p)
