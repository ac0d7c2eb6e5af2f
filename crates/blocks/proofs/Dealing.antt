-- Confirmations written place by place: those still to come, counted and written, do not change.
use Prim.Native.Nat.{ℕ, suc, ◌+◌, ◌*◌, ◌≤◌, ◌<◌}
use mathlib.Core.Path.{◌≡◌, refl, sym, ap, ◌∙◌}
use mathlib.Core.Bool.{Bool, true, false, cond, not, ◌&&◌, and-false}
use mathlib.Core.List.{List, [], ◌∷◌, ◌++◌}
use native.Mathlib.Omega.{arith}
use native.Mathlib.Nat.{add-zero, add-suc, suc-add}
use native.Mathlib.Numerals.{add-one}
use lib.ListN.{length, get_or, drop, set, length-append, drop_of_length-le}
use lib.Seq.{drop-cons, sets, length-sets}
use lib.Dec.{eqb}
use borrow.Author.Tests.{eq-eqb, ne_eqb}
use Rattle.model.specs.declared.Declaration.{Declaration}
use Rattle.model.specs.declared.Trade.{Trade}
use Rattle.model.specs.Lists.{total}
use Rattle.model.specs.Matching.{filled}
use Rattle.model.specs.Arrival.{is_taken}
use Rattle.model.specs.Blocks.{undeclared, is_held}
use Rattle.book.specs.declared.Dealt.{Dealt}
use Rattle.book.specs.Writing.{fitted}
use Rattle.book.specs.Deals.{dealt}
use Rattle.book.proofs.Lists.{each_at}
use Rattle.book.proofs.Written.{sets_fitted}
use Rattle.declarations.specs.Declared.{WellFormed, Declared}
use Rattle.partners.specs.Partners.{is_buyer, confirmed_with, agreed}
use Rattle.blocks.specs.Confirming.{place_trades, Added}

-- ---- one place

module _ (x : Declaration) (p : ℕ) where
  none_free : x.number ≡ 0 → place_trades x p ≡ []
  unfolding place_trades is_buyer is_held is_taken
  none_free z = rw (eq-eqb x.number 0 z)

  none_sells : (x.side ≡ 0 → ⊥) → place_trades x p ≡ []
  unfolding place_trades is_buyer
  none_sells n = rw (ne_eqb x.side 0 n, and-false (is_held x))

  none_alone : p ≡ 0 → place_trades x p ≡ []
  unfolding place_trades
  none_alone z = rw (eq-eqb p 0 z, and-false (is_buyer x))

  one_bought : (x.number ≡ 0 → ⊥) → x.side ≡ 0 → (p ≡ 0 → ⊥) → place_trades x p ≡ confirmed_with x p ∷ []
  unfolding place_trades is_buyer is_held is_taken
  one_bought n z m = rw (ne_eqb x.number 0 n, eq-eqb x.side 0 z, ne_eqb p 0 m)

  -- at most one trade, of no more than the declaration's shares
  place_few : (length (place_trades x p) ≤ 1) × (filled (place_trades x p) ≤ x.quantity)
  unfolding place_trades confirmed_with filled total
  place_few = go (is_buyer x && not (eqb p 0))
    where
      go :
          (b : Bool)
          → (length (cond b (confirmed_with x p ∷ []) []) ≤ 1) × (filled (cond b (confirmed_with x p ∷ []) []) ≤ x.quantity)
      go true = (omega arith, omega arith)
      go false = (omega arith, omega arith)

added_none : {sofar : Dealt} {ts : List Trade} {rows : List Trade} → ts ≡ [] → Added sofar ts rows sofar rows
unfolding filled total
added_none {sofar} {ts} {rows} e = rw e (record { made = omega arith; shares = omega arith; written = refl })

module _ (x : Declaration) (p : ℕ) (sofar : Dealt) (rows : List Trade) where
  pub free_adds_none : x.number ≡ 0 → Added sofar (place_trades x p) rows sofar rows
  free_adds_none z = added_none (none_free x p z)

  pub seller_adds_none : (x.side ≡ 0 → ⊥) → Added sofar (place_trades x p) rows sofar rows
  seller_adds_none n = added_none (none_sells x p n)

  pub alone_adds_none : p ≡ 0 → Added sofar (place_trades x p) rows sofar rows
  alone_adds_none z = added_none (none_alone x p z)

  pub buyer_adds :
      {rows' : List Trade}
      → (x.number ≡ 0 → ⊥)
      → x.side ≡ 0
      → (p ≡ 0 → ⊥)
      → rows' ≡ set rows sofar.made (confirmed_with x p)
      → Added sofar (place_trades x p) rows (record { made = sofar.made + 1; shares = sofar.shares + x.quantity }) rows'
  unfolding filled total confirmed_with
  buyer_adds n z m e =
      rw (one_bought x p n z m) (record { made = refl; shares = omega arith; written = e })

-- ---- place by place

module _ {A : Type 0} where
  sets_append : (l xs ys : List A) (i : ℕ) → sets l i (xs ++ ys) ≡ sets (sets l i xs) (i + length xs) ys
  sets_append l [] ys i = rw add-zero
  sets_append l (x ∷ xs) ys i = rw (add-suc, ← suc-add) (sets_append (set l i x) xs ys (suc i))

rows_append : (ts us : List Trade) → (ts ++ us) ≡ ts ++ us
rows_append [] us = refl
rows_append (t ∷ ts) us = ap (λ (l : List Trade). t ∷ l) (rows_append ts us)

filled_append : (ts us : List Trade) → filled (ts ++ us) ≡ filled ts + filled us
unfolding filled total
filled_append [] us = omega arith
filled_append (t ∷ ts) us = omega (arith, filled_append ts us)

agreed_cons :
    (x : Declaration) (held : List Declaration) (p : ℕ) (ps : List ℕ)
    → agreed (x ∷ held) (p ∷ ps) ≡ place_trades x p ++ agreed held ps
unfolding agreed place_trades
agreed_cons x held p ps = go (is_buyer x && not (eqb p 0))
  where
    go :
        (b : Bool)
        → cond b (confirmed_with x p ∷ agreed held ps) (agreed held ps) ≡ cond b (confirmed_with x p ∷ []) [] ++ agreed held ps
    go true = refl
    go false = refl

module _ (held : List Declaration) (ps : List ℕ) (trades₀ : List Trade) where
  -- the confirmations from place i on
  abbrev pub coming : ℕ → List Trade
  coming i = agreed (drop i held) (drop i ps)

  pub record Dealing (trades : List Trade) (sofar : Dealt) (i : ℕ) : Type 0 where
    pub made : sofar.made + length (coming i) ≡ length (agreed held ps)
    pub shares : sofar.shares + filled (coming i) ≡ filled (agreed held ps)
    pub written : sets trades sofar.made (coming i) ≡ sets trades₀ 0 (agreed held ps)
    pub few : sofar.made ≤ i
    pub bounded : sofar.shares ≤ 100_000_000 * i
    pub long : length trades ≡ length trades₀

  pub dealing_start : Dealing trades₀ (record { made = 0; shares = 0 }) 0
  dealing_start =
      record { made = omega arith; shares = omega arith; written = refl; few = omega arith; bounded = omega arith; long = refl }

  module _ {trades : List Trade} {sofar : Dealt} {i : ℕ} (w : Dealing trades sofar i) where
    pub dealing_next :
        {x : Declaration} {p : ℕ} {r : Dealt} {trades' : List Trade}
        → i < length held
        → i < length ps
        → x ≡ get_or held i undeclared
        → p ≡ get_or ps i 0
        → x.quantity ≤ 100_000_000
        → Added sofar (place_trades x p) trades r trades'
        → Dealing trades' r (i + 1)
    dealing_next {x} {p} {r} {trades'} h k e f q a =
        let held_next : drop i held ≡ x ∷ drop (i + 1) held =
        drop-cons held i undeclared h ∙ rw (sym e, add-one i) in
        let ps_next : drop i ps ≡ p ∷ drop (i + 1) ps = drop-cons ps i 0 k ∙ rw (sym f, add-one i) in
        let same : coming i ≡ place_trades x p ++ coming (i + 1) =
        ap (λ (l : List Declaration). agreed l (drop i ps)) held_next
        ∙ ap (agreed (x ∷ drop (i + 1) held)) ps_next
        ∙ agreed_cons x (drop (i + 1) held) p (drop (i + 1) ps) in
        record {
          made =
              omega (arith, a.made, w.made, ap length same, length-append (place_trades x p) (coming (i + 1)));
          shares =
              omega (arith, a.shares, w.shares, ap filled same, filled_append (place_trades x p) (coming (i + 1)));
          written =
              rw (a.written, a.made)
              (ap (λ n. sets (sets trades sofar.made (place_trades x p)) (sofar.made + n) (coming (i + 1))) (refl)
              ∙ sym (sets_append trades (place_trades x p) (coming (i + 1)) sofar.made)
              ∙ ap (sets trades sofar.made) (sym (rows_append (place_trades x p) (coming (i + 1))) ∙ (sym same))
              ∙ w.written);
          few = omega (arith, a.made, w.few, (place_few x p).0);
          bounded = omega (arith, a.shares, w.bounded, (place_few x p).1);
          long = ap length a.written ∙ length-sets trades sofar.made (place_trades x p) ∙ w.long;
        }

    module _ (h : length held ≤ i) where
      none_come : coming i ≡ []
      unfolding agreed
      none_come = ap (λ (l : List Declaration). agreed l (drop i ps)) (drop_of_length-le held {i = i} h)

      pub dealing_counted : sofar ≡ dealt (agreed held ps)
      unfolding dealt filled total
      dealing_counted =
          let m : sofar.made ≡ length (agreed held ps) = omega (arith, w.made, ap length none_come) in
          let s : sofar.shares ≡ filled (agreed held ps) = omega (arith, w.shares, ap filled none_come) in
          rw (sym m, sym s)

      pub dealing_written : trades ≡ fitted (agreed held ps) trades₀
      dealing_written =
          ap (λ (l : List Trade). sets trades sofar.made l) (sym none_come)
          ∙ w.written
          ∙ sets_fitted (agreed held ps) trades₀

-- the quantity at a place is within its bound
pub place_bounded :
    (held : List Declaration) → Declared held → (i : ℕ) {x : Declaration} → i < length held → x ≡ get_or held i undeclared → x.quantity ≤ 100_000_000
place_bounded held d i h e =
    let f : WellFormed (get_or held i undeclared) = each_at WellFormed held undeclared d.formed i h in
    omega (arith, f.quantity, ap (λ (x : Declaration). x.quantity) e)
