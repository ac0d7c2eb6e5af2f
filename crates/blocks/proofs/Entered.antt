-- What a new declaration leaves: it stands behind all that came before it, or it is confirmed and leaves with its partner, and those
-- behind the partner move up.
use Prim.Native.Nat.{ℕ, zero, suc, ◌+◌, ◌<◌}
use mathlib.Core.Path.{◌≡◌, refl, sym, ap, ◌∙◌}
use mathlib.Core.Bool.{Bool, true, false, cond, not, ◌||◌}
use mathlib.Core.List.{List, [], ◌∷◌, ◌++◌, append-nil}
use native.Mathlib.Omega.{arith}
use native.Mathlib.Numerals.{add-one}
use lib.ListN.{length, get_or, take, drop, set, replicate}
use lib.Dec.{eqb}
use borrow.Author.Tests.{eq-eqb, ne_eqb}
use Rattle.model.specs.declared.Declaration.{Declaration}
use Rattle.model.specs.Lists.{keep, any, total}
use Rattle.model.specs.Matching.{filled, is_in}
use Rattle.model.specs.Arrival.{is_taken, in_places}
use Rattle.model.specs.Blocks.{undeclared, is_held, fits, confirmation, unnamed, held_in}
use Rattle.model.specs.Words.{Each}
use Rattle.book.proofs.Lists.{each_at, keep_true, keep_false, keep_all, keep_append, kept}
use Rattle.declarations.specs.Declared.{Declared}
use Rattle.arrivals.proofs.Lines.{taken, one_place}
use Rattle.arrivals.proofs.Places.{taken_kept, places_with, places_without}
use Rattle.partners.proofs.Buyers.{fits_fitting}
use Rattle.partners.proofs.Turns.{unnamed_none}
use Rattle.held.specs.Meeting.{joining}
use Rattle.held.proofs.Holding.{number_of, free_number}
use Rattle.blocks.proofs.Confirmed.{declared_line, declared_free}

-- ---- the confirmation of two

module _ (x y : Declaration) where
  -- it names these two and nobody else
  joins : (n : ℕ) → any (is_in n) (joining x y ∷ []) ≡ (eqb x.number n || eqb y.number n)
  unfolding joining confirmation is_in any
  joins n = go (eqb x.side 0) (eqb x.number n) (eqb y.number n) refl refl
    where
      go :
          (s a b : Bool)
          → eqb x.number n ≡ a
          → eqb y.number n ≡ b
          → any (is_in n) (cond s (confirmation x y) (confirmation y x) ∷ []) ≡ (a || b)
      go true true b e f = rw e
      go true false true e f = rw (e, f)
      go true false false e f = rw (e, f)
      go false true true e f = rw f
      go false true false e f = rw (e, f)
      go false false true e f = rw f
      go false false false e f = rw (e, f)

  -- its shares are those of either
  pub joined_shares : fits x y ≡ true → filled (joining x y ∷ []) ≡ x.quantity
  unfolding joining confirmation filled total
  joined_shares e = go (eqb x.side 0) (fits_fitting x y e).quantity
    where
      go : (s : Bool) → x.quantity ≡ y.quantity → (cond s (confirmation x y) (confirmation y x)).quantity + 0 ≡ x.quantity
      go true f = omega arith
      go false f = omega arith

-- ---- all but one

module _ {A : Type 0} (q : A → Bool) (d : A) where
  keep_but :
      (xs : List A) (p : ℕ)
      → p < length xs
      → q (get_or xs p d) ≡ false
      → ((i : ℕ) → i < length xs → (i ≡ p → ⊥) → q (get_or xs i d) ≡ true)
      → keep q xs ≡ take p xs ++ drop (p + 1) xs
  keep_but [] p h f g = absurd (omega arith)
  keep_but (x ∷ xs) zero h f g =
      keep_false q x xs f ∙ keep_all q xs (all_rest xs (λ i k. g (suc i) (omega arith) (λ z. omega arith)))
    where
      all_rest : (ys : List A) → ((i : ℕ) → i < length ys → q (get_or ys i d) ≡ true) → Each (λ y. q y ≡ true) ys
      all_rest [] k = tt
      all_rest (y ∷ ys) k = (k 0 (omega arith), all_rest ys (λ i l. k (suc i) (omega arith)))
  keep_but (x ∷ xs) (suc p) h f g =
      keep_true q x xs (g 0 (omega arith) (λ z. omega arith))
      ∙ ap (λ (l : List A). x ∷ l)
      (keep_but xs p (omega arith) f (λ i k n. g (suc i) (omega arith) (λ z. n (omega arith)))
      ∙ ap (λ (n : ℕ). take p xs ++ drop n xs) (add-one p))
      ∙ ap (λ (n : ℕ). x ∷ take p xs ++ drop n (x ∷ xs)) (sym (add-one (suc p)))

-- only those taken matter to the places
places_taken_alone : (n : ℕ) (xs : List Declaration) → in_places number_of undeclared n (taken number_of xs) ≡ in_places number_of undeclared n xs
unfolding in_places
places_taken_alone n xs =
    ap (λ (l : List Declaration). take n (l ++ replicate n undeclared))
    (keep_all (is_taken number_of) (taken number_of xs) (kept (is_taken number_of) xs))

-- ---- the new one among those held

module _ (held : List Declaration) (r : Declared held) (x : Declaration) (new : x.number ≡ 0 → ⊥) (later : Each (λ y. y.number < x.number) held) where
  -- nobody is named: it stands behind all
  pub stands_behind :
      length (keep is_held held) < length held
      → held_in (length held) (unnamed [] (keep is_held held ++ (x ∷ []))) ≡ set held (length (keep is_held held)) x
  unfolding held_in is_held
  stands_behind h =
      ap (in_places number_of undeclared (length held)) (unnamed_none (keep is_held held ++ (x ∷ [])))
      ∙ places_with number_of undeclared free_number held (declared_line held r) (declared_free held r) x new h

  module _ (p : ℕ) (inside : p < length held) (partner : (get_or held p undeclared).number ≡ 0 → ⊥) where
    abbrev y : Declaration
    y = get_or held p undeclared

    -- who stays
    abbrev pub stays : Declaration → Bool
    stays z = not (any (is_in z.number) (joining x y ∷ []))

    partner_leaves : stays y ≡ false
    partner_leaves = rw (joins x y y.number, eq-eqb y.number y.number refl) (go (eqb x.number y.number))
      where
        go : (b : Bool) → not (b || true) ≡ false
        go true = refl
        go false = refl

    itself_leaves : stays x ≡ false
    itself_leaves = rw (joins x y x.number, eq-eqb x.number x.number refl)

    others_stay : (i : ℕ) → i < length held → (i ≡ p → ⊥) → stays (get_or held i undeclared) ≡ true
    others_stay i h n =
        let lower : (get_or held i undeclared).number < x.number = each_at (λ z. z.number < x.number) held undeclared later i h in
        rw (
          joins x y (get_or held i undeclared).number,
          ne_eqb x.number (get_or held i undeclared).number (λ e. omega arith),
          ne_eqb y.number (get_or held i undeclared).number
              (λ e. n (sym (one_place number_of undeclared free_number held (declared_line held r) p i partner e))),
        )

    pub left : keep stays held ≡ take p held ++ drop (p + 1) held
    left = keep_but stays undeclared held p inside partner_leaves others_stay

    among_held : keep stays (keep is_held held ++ (x ∷ [])) ≡ taken number_of (keep stays held)
    unfolding is_held keep
    among_held =
        keep_append stays (keep is_held held) (x ∷ [])
        ∙ ap (λ (l : List Declaration). keep stays (keep is_held held) ++ l) (keep_false stays x [] itself_leaves)
        ∙ append-nil (keep stays (keep is_held held))
        ∙ sym (taken_kept number_of undeclared free_number stays held)

    -- the new one and its partner leave
    pub others_left : held_in (length held) (unnamed (joining x y ∷ []) (keep is_held held ++ (x ∷ []))) ≡ held_in (length held) (keep stays held)
    unfolding held_in unnamed
    others_left = ap (in_places number_of undeclared (length held)) among_held ∙ places_taken_alone (length held) (keep stays held)

    pub two_leave :
        held_in (length held) (unnamed (joining x y ∷ []) (keep is_held held ++ (x ∷ []))) ≡ take p held ++ (drop (p + 1) held ++ (undeclared ∷ []))
    unfolding held_in
    two_leave =
        others_left
        ∙ places_without number_of undeclared free_number held (declared_line held r) (declared_free held r) stays p inside left
