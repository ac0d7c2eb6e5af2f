-- What holds for each element of a mapped list, and what holds for some element. Assumes nothing.
use Prim.Native.Nat.{ℕ, zero, suc, ◌<◌}
use mathlib.Core.Path.{◌≡◌, refl, subst}
use mathlib.Core.List.{List, [], ◌∷◌, ◌++◌, map}
use mathlib.Core.Logic.{◌⊎◌, inl, inr, ⊎_elim}
use native.Mathlib.Omega.{arith}
use native.Mathlib.Nat.{le_of_suc-le-suc, not-suc-le-zero}
use lib.ListN.{length, get_or}
use Rattle.model.specs.Words.{Each, Some}

module _ {A : Type 0} where
  pub each_map : {B : Type 0} (P : B → Type 0) (f : A → B) (xs : List A) → Each (λ x. P (f x)) xs → Each P (map f xs)
  each_map P f [] h = tt
  each_map P f (x ∷ xs) h = (h.0, each_map P f xs h.1)

  pub some_map : {P Q : A → Type 0} → ((x : A) → P x → Q x) → (xs : List A) → Some P xs → Some Q xs
  some_map f [] h = absurd h
  some_map f (x ∷ xs) h = ⊎_elim (λ p. inl (f x p)) (λ k. inr (some_map f xs k)) h

  -- ---- two lists in a row

  pub some_left : (P : A → Type 0) (xs ys : List A) → Some P xs → Some P (xs ++ ys)
  some_left P [] ys h = absurd h
  some_left P (x ∷ xs) ys h = ⊎_elim inl (λ k. inr (some_left P xs ys k)) h

  pub some_right : (P : A → Type 0) (xs ys : List A) → Some P ys → Some P (xs ++ ys)
  some_right P [] ys h = h
  some_right P (x ∷ xs) ys h = inr (some_right P xs ys h)

  pub some_either : (P : A → Type 0) (xs ys : List A) → Some P (xs ++ ys) → Some P xs ⊎ Some P ys
  some_either P [] ys h = inr h
  some_either P (x ∷ xs) ys h =
      ⊎_elim (λ p. inl (inl p)) (λ k. ⊎_elim (λ a. inl (inr a)) inr (some_either P xs ys k)) h

  -- ---- one element

  -- the one at a place is one of them
  pub some_at : (xs : List A) (d : A) (i : ℕ) → i < length xs → Some (λ y. y ≡ get_or xs i d) xs
  some_at [] d i h = absurd (not-suc-le-zero h)
  some_at (x ∷ xs) d zero h = inl refl
  some_at (x ∷ xs) d (suc i) h = inr (some_at xs d i (le_of_suc-le-suc h))

  -- what each has, this one has
  pub each_some : (P : A → Type 0) (xs : List A) (x : A) → Each P xs → Some (λ y. y ≡ x) xs → P x
  each_some P [] x e h = absurd h
  each_some P (y ∷ ys) x e h = ⊎_elim (λ k. subst P k e.0) (λ k. each_some P ys x e.1 k) h

  -- and it stands at a place
  pub some_place : (xs : List A) (d x : A) → Some (λ y. y ≡ x) xs → (i : ℕ) × (i < length xs) × (get_or xs i d ≡ x)
  some_place [] d x h = absurd h
  some_place (y ∷ ys) d x h =
      ⊎_elim (λ k. (0, omega arith, k)) (λ k. let r = some_place ys d x k in (suc r.0, omega (arith, r.1), r.2)) h
