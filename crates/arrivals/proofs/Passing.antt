-- A walk along a list, with a test of each place beside the next: what is told so far leaves the question to the rest. Assumes nothing.
use Prim.Native.Nat.{ℕ, suc, ◌+◌, ◌-◌, ◌≤◌, ◌<◌}
use mathlib.Core.Path.{◌≡◌, refl, sym, ap, ◌∙◌}
use mathlib.Core.Bool.{Bool, true, false, ◌&&◌}
use mathlib.Core.List.{List, [], ◌∷◌}
use native.Mathlib.Omega.{arith}
use lib.ListN.{length, get_or, drop, length-drop}
use lib.Seq.{drop-cons}
use Rattle.model.specs.Arrival.{may_arrive, in_arrival}

module _ {A : Type 0} (none : A) (xs : List A) where
  module _ (number : A → ℕ) where
    -- those up to the one before i have passed
    pub record Arrived (i : ℕ) : Type 0 where
      pub same : in_arrival number xs ≡ in_arrival number (drop (i - 1) xs)
      pub low : 1 ≤ i

    pub arrived_start : Arrived 1
    arrived_start = record { same = refl; low = omega arith }

    module _ {i : ℕ} (w : Arrived i) where
      module _ {x y : A} (inside : i < length xs) (ex : x ≡ get_or xs (i - 1) none) (ey : y ≡ get_or xs i none) where
        second : drop i xs ≡ y ∷ drop (suc i) xs
        second = drop-cons xs i none inside ∙ ap (λ (z : A). z ∷ drop (suc i) xs) (sym ey)

        two : drop (i - 1) xs ≡ x ∷ y ∷ drop (suc i) xs
        two =
            let k : suc (i - 1) ≡ i = omega (arith, w.low) in
            drop-cons xs (i - 1) none (omega arith)
            ∙ ap (λ (z : A). z ∷ drop (suc (i - 1)) xs) (sym ex)
            ∙ ap (λ (n : ℕ). x ∷ drop n xs) k
            ∙ ap (λ (l : List A). x ∷ l) second

        both : in_arrival number xs ≡ (may_arrive number x y && in_arrival number (drop i xs))
        unfolding in_arrival
        both =
            w.same
            ∙ ap (in_arrival number) two
            ∙ ap (λ (l : List A). may_arrive number x y && in_arrival number l) (sym second)

        module _ {r : Bool} (e : r ≡ may_arrive number x y) where
          pub arrived_fails : r ≡ false → false ≡ in_arrival number xs
          arrived_fails f = sym (both ∙ rw (sym e ∙ f))

          pub arrived_next : r ≡ true → Arrived (i + 1)
          arrived_next f =
              let k : i + 1 - 1 ≡ i = omega arith in
              record { same = both ∙ rw (sym e ∙ f, k); low = omega arith }

      pub arrived_ends : length xs ≤ i → true ≡ in_arrival number xs
      arrived_ends h =
          sym (w.same ∙ alone (drop (i - 1) xs) (omega (arith, length-drop (i - 1) xs)))
        where
          alone : (ys : List A) → length ys ≤ 1 → in_arrival number ys ≡ true
          alone [] l = unfold in_arrival in refl
          alone (y ∷ []) l = unfold in_arrival in refl
          alone (y ∷ z ∷ ys) l = absurd (omega arith)
