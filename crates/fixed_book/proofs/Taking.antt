-- The walk that takes shares off the line: what is left of those passed, with what is still to come off those behind, is what the close
-- leaves of the whole line. Assumes nothing.
use Prim.Native.Nat.{ℕ, suc, ◌+◌, ◌-◌, ◌≤◌, ◌<◌}
use mathlib.Core.Path.{◌≡◌, refl, sym, ap, ◌∙◌}
use mathlib.Core.Bool.{Bool, true, false}
use mathlib.Core.List.{List, [], ◌∷◌, ◌++◌, append_assoc, append-nil}
use native.Mathlib.Omega.{arith}
use native.Mathlib.Numerals.{add-one}
use lib.ListN.{length, get_or, take, drop, set, length-map, length-set, drop_of_length-le}
use lib.Seq.{drop-cons, drop-set-lt, drop-drop, get_or-drop, take_all, take-suc-set}
use lib.Dec.{eqb}
use borrow.Author.Tests.{eq-eqb, ne_eqb}
use Rattle.model.specs.declared.Order.{Order}
use Rattle.model.specs.Lists.{keep, total}
use Rattle.model.specs.Book.{free}
use Rattle.model.specs.Matching.{less_by}
use Rattle.model.specs.Auction.{shares_of}
use Rattle.model.specs.FixedBook.{is_void}
use Rattle.book.specs.Standing.{Fair}
use Rattle.book.proofs.Lists.{keep_true, keep_false, total_keep, each_at}
use Rattle.soundness.proofs.Totals.{shares_within}
use Rattle.fixed_book.specs.declared.Owed.{Owed}
use Rattle.fixed_book.specs.Ready.{Lined}
use Rattle.fixed_book.specs.Leaving.{owed_by, left_of, owed_behind, left_over}

-- ---- one order

module _ (close : ℕ) (w : Owed) (o : Order) where
  -- the line from this order on
  left_step : (os : List Order) → left_over close w.buys w.sells (o ∷ os) ≡ left_of close w o ∷ left_over close (owed_behind close w o).buys (owed_behind close w o).sells os
  unfolding left_over left_of owed_behind owed_by
  left_step os = go (is_void close o) refl (eqb o.side 0) refl
    where
      go :
          (a : Bool)
          → is_void close o ≡ a
          → (b : Bool)
          → eqb o.side 0 ≡ b
          → left_over close w.buys w.sells (o ∷ os)
          ≡ left_of close w o ∷ left_over close (owed_behind close w o).buys (owed_behind close w o).sells os
      go true e b f = rw e
      go false e true f = rw (e, f)
      go false e false f = rw (e, f)

  void_step : (os : List Order) → (owed_behind close w o).void + shares_of (is_void close) os ≡ w.void + shares_of (is_void close) (o ∷ os)
  unfolding owed_behind shares_of total
  void_step os = go (is_void close o) refl (eqb o.side 0) refl
    where
      go :
          (a : Bool)
          → is_void close o ≡ a
          → (b : Bool)
          → eqb o.side 0 ≡ b
          → (owed_behind close w o).void + shares_of (is_void close) os ≡ w.void + shares_of (is_void close) (o ∷ os)
      go true e b f = rw (e, keep_true (is_void close) o os e) (omega arith)
      go false e true f = rw (e, f, keep_false (is_void close) o os e)
      go false e false f = rw (e, f, keep_false (is_void close) o os e)

-- ---- the walk

pub record Taken (close shares : ℕ) (rows₀ rows : List Order) (w : Owed) (i : ℕ) : Type 0 where
  pub same : take i rows ++ left_over close w.buys w.sells (drop i rows₀) ≡ left_over close shares shares rows₀
  pub back : drop i rows ≡ drop i rows₀
  pub void : w.void + shares_of (is_void close) (drop i rows₀) ≡ shares_of (is_void close) rows₀
  pub long : length rows ≡ length rows₀

pub taken_start : (close shares : ℕ) (rows₀ : List Order) → Taken close shares rows₀ rows₀ (record { buys = shares; sells = shares; void = 0 }) 0
taken_start close shares rows₀ = record { same = refl; back = refl; void = omega arith; long = refl }

void_none : (close : ℕ) → shares_of (is_void close) [] ≡ 0
unfolding shares_of keep total
void_none close = refl

-- no more is void than the line has
pub void_fits : (close : ℕ) (book : List Order) → Lined book → shares_of (is_void close) book ≤ 4_096_000_000
unfolding shares_of
void_fits close book l =
    omega (arith, total_keep (λ (o : Order). o.left) (is_void close) book, shares_within book l.fair l.few)

module _ (close shares : ℕ) (rows₀ : List Order) {rows : List Order} {w : Owed} {i : ℕ} (t : Taken close shares rows₀ rows w i) where
  module _ {o : Order} (inside : i < length rows) (e : o ≡ get_or rows i free) where
    here : drop i rows₀ ≡ o ∷ drop (i + 1) rows₀
    here =
        sym t.back
        ∙ drop-cons rows i free (omega arith)
        ∙ ap (λ (x : Order). x ∷ drop (suc i) rows) (sym (e))
        ∙ ap (λ n. o ∷ drop n rows) (sym (add-one i))
        ∙ ap (λ (l : List Order). o ∷ l) later
      where
        later : drop (i + 1) rows ≡ drop (i + 1) rows₀
        later = sym (drop-drop 1 i rows) ∙ ap (drop 1) t.back ∙ drop-drop 1 i rows₀

    pub void_small : Lined rows₀ → w.void + o.left ≤ 4_097_000_000
    void_small l =
        let fair : Fair o =
        rw (e ∙ first)
        (each_at Fair rows₀ free l.fair i (omega (arith, t.long)))
        in
        omega (arith, fair.left, t.void, void_fits close rows₀ l)
      where
        first : get_or rows i free ≡ get_or rows₀ i free
        first =
            let z : i + 0 ≡ i = omega arith in
            ap (λ n. get_or rows n free) (sym z)
            ∙ sym (get_or-drop i rows 0 free)
            ∙ ap (λ (l : List Order). get_or l 0 free) t.back
            ∙ get_or-drop i rows₀ 0 free
            ∙ ap (λ n. get_or rows₀ n free) z

    pub taken_next :
        {p : Order} {w' : Owed} {rows' : List Order}
        → p ≡ left_of close w o
        → w' ≡ owed_behind close w o
        → rows' ≡ set rows i p
        → Taken close shares rows₀ rows' w' (i + 1)
    taken_next {p} {w'} {rows'} ep ew er =
        let book' : rows' ≡ set rows i p = er in
        let more : take (i + 1) rows' ≡ take i rows ++ (p ∷ []) =
        ap (take (i + 1)) book'
        ∙ ap (λ n. take n (set rows i p)) (add-one i)
        ∙ take-suc-set rows i p (omega arith)
        in
        rw ew
        (record {
          same =
              ap (λ (l : List Order). l ++ left_over close (owed_behind close w o).buys (owed_behind close w o).sells (drop (i + 1) rows₀)) more
              ∙ append_assoc (take i rows) (p ∷ []) (left_over close (owed_behind close w o).buys (owed_behind close w o).sells (drop (i + 1) rows₀))
              ∙ ap (λ (x : Order). take i rows ++ (x ∷ left_over close (owed_behind close w o).buys (owed_behind close w o).sells (drop (i + 1) rows₀))) ep
              ∙ ap (λ (l : List Order). take i rows ++ l) (sym (ap (left_over close w.buys w.sells) here ∙ left_step close w o (drop (i + 1) rows₀)))
              ∙ t.same;
          back =
              ap (drop (i + 1)) book'
              ∙ drop-set-lt (i + 1) rows i p (omega arith)
              ∙ sym (drop-drop 1 i rows)
              ∙ ap (drop 1) t.back
              ∙ drop-drop 1 i rows₀;
          void = void_step close w o (drop (i + 1) rows₀) ∙ ap (λ (l : List Order). w.void + shares_of (is_void close) l) (sym here) ∙ t.void;
          long = ap length er ∙ length-set rows i p ∙ t.long;
        })

  pub taken_end :
      length rows ≤ i
      → (w.void ≡ shares_of (is_void close) rows₀) × (rows ≡ left_over close shares shares rows₀)
  unfolding left_over
  taken_end h =
      let none : drop i rows₀ ≡ [] = drop_of_length-le rows₀ {i = i} (omega (arith, t.long)) in (
        omega (arith, t.void, ap (shares_of (is_void close)) none, void_none close),
        sym
            (ap (λ (l : List Order). take i rows ++ left_over close w.buys w.sells l) none
            ∙ append-nil (take i rows)
            ∙ take_all i rows (omega arith))
            ∙ t.same,
      )
