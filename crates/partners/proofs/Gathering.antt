-- The places of one side: what stands at them, and the loop that gathers them. Assumes nothing.
use Rattle.std.specs.Prelude.{if◌then◌else◌}
use Prim.Native.Nat.{ℕ, suc, ◌+◌, ◌≤◌, ◌<◌}
use mathlib.Core.Path.{◌≡◌, refl, sym, ap, ◌∙◌}
use mathlib.Core.Bool.{Bool, true, false}
use mathlib.Core.List.{List, [], ◌∷◌, ◌++◌, map, map-map, append_assoc, append-nil}
use native.Mathlib.Omega.{arith}
use native.Mathlib.Numerals.{add-one}
use lib.ListN.{length, get_or, set, take, drop, length-set, drop_of_length-le}
use lib.Seq.{drop-cons, take-suc-set, take_at, length-take-le}
use Rattle.model.specs.declared.Declaration.{Declaration}
use Rattle.model.specs.Lists.{keep}
use Rattle.model.specs.Blocks.{undeclared}
use Rattle.model.specs.Words.{Each}
use Rattle.book.proofs.Lists.{each, keep_true, keep_false}
use Rattle.classes.specs.Classes.{class_of, is_same, is_before}
use Rattle.classes.specs.Sorting.{class_at, InOrder, Sorted}
use Rattle.classes.proofs.Merging.{sorted_each}
use Rattle.partners.specs.Partners.{is_buyer}
use Rattle.partners.specs.Places.{at, is_on, places_on, BothSorted}
use Rattle.partners.proofs.Tests.{each_map, keep_map}
use Rattle.partners.proofs.Sides.{Sides}

module _ (side : ℕ) where
  pub on_place : (n : ℕ) (x : Declaration) (xs : List Declaration) → is_on side x ≡ true → places_on side n (x ∷ xs) ≡ n ∷ places_on side (suc n) xs
  unfolding places_on
  on_place n x xs e = rw e

  pub off_place : (n : ℕ) (x : Declaration) (xs : List Declaration) → is_on side x ≡ false → places_on side n (x ∷ xs) ≡ places_on side (suc n) xs
  unfolding places_on
  off_place n x xs e = rw e

  pub no_places : (n : ℕ) → places_on side n [] ≡ []
  unfolding places_on
  no_places n = refl

  places_shift : (n : ℕ) (xs : List Declaration) → places_on side (suc n) xs ≡ map suc (places_on side n xs)
  unfolding places_on
  places_shift n [] = refl
  places_shift n (x ∷ xs) = go (is_on side x) (places_shift (suc n) xs)
    where
      go :
          (b : Bool)
          → places_on side (suc (suc n)) xs ≡ map suc (places_on side (suc n) xs)
          → (if b then suc n ∷ places_on side (suc (suc n)) xs else places_on side (suc (suc n)) xs)
          ≡ map suc (if b then n ∷ places_on side (suc n) xs else places_on side (suc n) xs)
      go true h = ap (λ (l : List ℕ). suc n ∷ l) h
      go false h = h

  -- they are the places of those on the side, in their order
  pub at_places : (held : List Declaration) → map (at held) (places_on side 0 held) ≡ keep (is_on side) held
  at_places [] = unfold places_on keep in refl
  at_places (x ∷ held) = go (further (at_places held)) (is_on side x) refl
    where
      further : map (at held) (places_on side 0 held) ≡ keep (is_on side) held → map (at (x ∷ held)) (places_on side 1 held) ≡ keep (is_on side) held
      further h = ap (map (at (x ∷ held))) (places_shift 0 held) ∙ map-map (at (x ∷ held)) suc (places_on side 0 held) ∙ h

      go :
          map (at (x ∷ held)) (places_on side 1 held) ≡ keep (is_on side) held
          → (b : Bool)
          → is_on side x ≡ b
          → map (at (x ∷ held)) (places_on side 0 (x ∷ held)) ≡ keep (is_on side) (x ∷ held)
      go more true e = ap (map (at (x ∷ held))) (on_place 0 x held e) ∙ ap (λ (l : List Declaration). x ∷ l) more ∙ sym (keep_true (is_on side) x held e)
      go more false e = ap (map (at (x ∷ held))) (off_place 0 x held e) ∙ more ∙ sym (keep_false (is_on side) x held e)

  pub within_places : (n : ℕ) (xs : List Declaration) → Each (λ p. p < n + length xs) (places_on side n xs)
  unfolding places_on
  within_places n [] = tt
  within_places n (x ∷ xs) = go (is_on side x) (each (λ p. p < suc n + length xs) (λ p. p < n + suc (length xs)) (places_on side (suc n) xs) (λ p h. omega arith) (within_places (suc n) xs))
    where
      go :
          (b : Bool)
          → Each (λ p. p < n + suc (length xs)) (places_on side (suc n) xs)
          → Each (λ p. p < n + suc (length xs)) (if b then n ∷ places_on side (suc n) xs else places_on side (suc n) xs)
      go true h = (omega arith, h)
      go false h = h

-- ---- gathered so far

pub record Gathering (side : ℕ) (held : List Declaration) (n : ℕ) (places : List ℕ) (count i : ℕ) : Type 0 where
  pub few : count ≤ i
  pub most : i ≤ length held
  pub long : length places ≡ n
  pub whole : take count places ++ places_on side i (drop i held) ≡ places_on side 0 held

module _ (side : ℕ) (rows : List Declaration) where
  pub gathering_start : (places : List ℕ) → Gathering side rows (length places) places 0 0
  gathering_start places = record { few = omega arith; most = omega arith; long = refl; whole = refl }

  module _
      (n : ℕ) (places : List ℕ) (count i : ℕ) (g : Gathering side rows n places count i) (h : i < length rows)
      {x : Declaration} (a : x ≡ get_or rows i undeclared) {r : Bool} (f : r ≡ is_on side x) where
    below : i < length rows
    below = omega (arith, h)

    head : drop i rows ≡ x ∷ drop (suc i) rows
    head =
        drop-cons rows i undeclared below
        ∙ ap (λ (y : Declaration). y ∷ drop (suc i) rows) (sym (a))

    pub gathering_on :
        length rows ≤ n
        → r ≡ true
        → {places' : List ℕ} {count' : ℕ}
        → places' ≡ set places count i
        → count' ≡ count + 1
        → Gathering side rows n places' count' (i + 1)
    gathering_on l t p q =
        rw (p, q)
        record {
          few = omega (arith, g.few);
          most = omega (arith, below);
          long = length-set places count i ∙ g.long;
          whole =
              rw (add-one count, add-one i)
              (ap (λ (k : List ℕ). k ++ places_on side (suc i) (drop (suc i) rows)) (take-suc-set places count i (omega (arith, g.few, g.long)))
              ∙ append_assoc (take count places) (i ∷ []) (places_on side (suc i) (drop (suc i) rows))
              ∙ ap (λ (k : List ℕ). take count places ++ k) (sym (ap (places_on side i) head ∙ on_place side i x (drop (suc i) rows) (sym f ∙ t)))
              ∙ g.whole);
        }

    pub gathering_off :
        r ≡ false → {places' : List ℕ} {count' : ℕ} → places' ≡ places → count' ≡ count → Gathering side rows n places' count' (i + 1)
    gathering_off t p q =
        rw (p, q)
        record {
          few = omega (arith, g.few);
          most = omega (arith, below);
          long = g.long;
          whole =
              rw (add-one i)
              (ap (λ (k : List ℕ). take count places ++ k) (sym (ap (places_on side i) head ∙ off_place side i x (drop (suc i) rows) (sym f ∙ t)))
              ∙ g.whole);
        }

  pub gathering_end :
      (n : ℕ) (places : List ℕ) (count i : ℕ)
      → Gathering side rows n places count i
      → length rows ≤ i
      → take count places ≡ places_on side 0 rows
  gathering_end n places count i g h =
      let past : length rows ≤ i = omega (arith, h) in
      let none : drop i rows ≡ [] = drop_of_length-le rows past in
      sym (append-nil (take count places))
      ∙ ap (λ (k : List ℕ). take count places ++ k) (sym (ap (places_on side i) none ∙ no_places side i))
      ∙ g.whole

-- ---- sorted

-- what stands at places that are sorted is sorted
module _ (held : List Declaration) where
  order_at : (ps : List ℕ) → InOrder (class_at held) ps → InOrder class_of (map (at held) ps)
  unfolding class_at
  order_at [] o = tt
  order_at (p ∷ ps) o = (each_map (at held) (λ y. is_before (class_of y) (class_of (at held p)) ≡ false) ps o.0, order_at ps o.1)

  sorted_at : (ps qs : List ℕ) → Sorted (class_at held) ps qs → Sorted class_of (map (at held) ps) (map (at held) qs)
  unfolding class_at
  sorted_at ps qs s =
      record {
        order = order_at qs s.order;
        same = λ c.
            keep_map (at held) (λ x. is_same c (class_of x)) qs ∙ ap (map (at held)) (s.same c)
            ∙ sym (keep_map (at held) (λ x. is_same c (class_of x)) ps);
      }

  pub sides_sorted : (buyers sellers : List ℕ) → BothSorted held buyers sellers → Sides held (map (at held) buyers) (map (at held) sellers)
  unfolding is_buyer is_on
  sides_sorted buyers sellers b =
      record {
        buyers = rw (at_places 0 held) at (sorted_at (places_on 0 0 held) buyers b.buying);
        sellers = rw (at_places 1 held) at (sorted_at (places_on 1 0 held) sellers b.selling);
      }

  pub places_within : (side : ℕ) (ps : List ℕ) → Sorted (class_at held) (places_on side 0 held) ps → Each (λ p. p < length held) ps
  places_within side ps s =
      sorted_each (class_at held) (λ p. p < length held) (places_on side 0 held) s
      (each (λ p. p < 0 + length held) (λ p. p < length held) (places_on side 0 held) (λ p h. omega arith) (within_places side 0 held))

-- ---- as the code has it

pub gathered_within :
    (side : ℕ) (rows : List Declaration) {ps : List ℕ} → ps ≡ places_on side 0 rows → Each (λ p. p < length rows) ps
gathered_within side rows e =
    rw e
    (each (λ p. p < 0 + length rows) (λ p. p < length rows) (places_on side 0 rows)
    (λ p h. omega (arith, h)) (within_places side 0 rows))

-- the first r places are sorted where they stand
pub gathered_sorted :
    (side : ℕ) (held : List Declaration) (places front : List ℕ) (r : ℕ)
    → r ≤ length places
    → take r places ≡ places_on side 0 held
    → length front ≡ length (take r places)
    → Sorted (class_at held) (take r places) front
    → Sorted (class_at held) (places_on side 0 held) (take r (front ++ drop r places))
gathered_sorted side held places front r h e l s =
    rw (take_at front (drop r places) r (l ∙ length-take-le r places h)) (rw e at s)
