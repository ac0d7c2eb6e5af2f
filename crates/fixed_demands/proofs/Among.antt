-- One of the elements of a list: found among others, among those that are kept, in two lists in a row, and at its place. Assumes nothing.
use Prim.Native.Nat.{ℕ, zero, suc, ◌<◌}
use mathlib.Core.Path.{◌≡◌, refl, ap, ◌∙◌}
use mathlib.Core.Logic.{◌⊎◌, inl, inr, ⊎_elim}
use mathlib.Core.Bool.{Bool, true, false}
use mathlib.Core.List.{List, [], ◌∷◌, ◌++◌, map}
use native.Mathlib.Nat.{le_of_suc-le-suc, not-suc-le-zero}
use native.Mathlib.Omega.{arith}
use lib.ListN.{length, get_or}
use Rattle.model.specs.Lists.{keep}
use Rattle.model.specs.Words.{Each, Some}
use Rattle.model.proofs.Bools.{not_both}
use Rattle.book.proofs.Lists.{each, keep_true, keep_false}

module _ {A : Type 0} where
  pub some_of : {P Q : A → Type 0} → ((x : A) → P x → Q x) → (xs : List A) → Some P xs → Some Q xs
  some_of f [] h = absurd h
  some_of f (x ∷ xs) h = ⊎_elim (λ p. inl (f x p)) (λ k. inr (some_of f xs k)) h

  -- each is one of them
  pub itself : (xs : List A) → Each (λ x. Some (λ y. y ≡ x) xs) xs
  itself [] = tt
  itself (x ∷ xs) = (inl refl, each (λ y. Some (λ z. z ≡ y) xs) (λ y. Some (λ z. z ≡ y) (x ∷ xs)) xs (λ y h. inr h) (itself xs))

  -- the one at a place, and the place of one
  pub some_at : (xs : List A) (d : A) (i : ℕ) → i < length xs → Some (λ y. y ≡ get_or xs i d) xs
  some_at [] d i h = absurd (not-suc-le-zero h)
  some_at (x ∷ xs) d zero h = inl refl
  some_at (x ∷ xs) d (suc i) h = inr (some_at xs d i (le_of_suc-le-suc h))

  pub some_place : (xs : List A) (d x : A) → Some (λ y. y ≡ x) xs → (i : ℕ) × (i < length xs) × (get_or xs i d ≡ x)
  some_place [] d x h = absurd h
  some_place (y ∷ ys) d x h =
      ⊎_elim (λ k. (0, omega arith, k)) (λ k. let r = some_place ys d x k in (suc r.0, omega (arith, r.1), r.2)) h

  -- ---- those that are kept

  pub some_kept : (P : A → Type 0) (p : A → Bool) (xs : List A) → Some P (keep p xs) → Some P xs
  some_kept P p [] h = absurd (unfold keep in h)
  some_kept P p (x ∷ xs) h = go (p x) refl h (some_kept P p xs)
    where
      go : (b : Bool) → p x ≡ b → Some P (keep p (x ∷ xs)) → (Some P (keep p xs) → Some P xs) → Some P (x ∷ xs)
      go true e h more = ⊎_elim inl (λ k. inr (more k)) (rw (keep_true p x xs e) at h)
      go false e h more = inr (more (rw (keep_false p x xs e) at h))

  -- one that passes the test
  pub kept_some : (p : A → Bool) (x : A) (xs : List A) → p x ≡ true → Some (λ y. y ≡ x) xs → Some (λ y. y ≡ x) (keep p xs)
  kept_some p x [] t h = absurd h
  kept_some p x (y ∷ ys) t h = go (p y) refl h (kept_some p x ys t)
    where
      go :
          (b : Bool)
          → p y ≡ b
          → (y ≡ x) ⊎ Some (λ z. z ≡ x) ys
          → (Some (λ z. z ≡ x) ys → Some (λ z. z ≡ x) (keep p ys))
          → Some (λ z. z ≡ x) (keep p (y ∷ ys))
      go true e h more = rw (keep_true p y ys e) (⊎_elim inl (λ k. inr (more k)) h)
      go false e h more = rw (keep_false p y ys e) (⊎_elim (λ z. absurd (not_both (ap p z ∙ t) e)) more h)

  -- ---- two lists in a row

  pub some_first : (P : A → Type 0) (xs ys : List A) → Some P xs → Some P (xs ++ ys)
  some_first P [] ys h = absurd h
  some_first P (x ∷ xs) ys h = ⊎_elim inl (λ k. inr (some_first P xs ys k)) h

  pub some_second : (P : A → Type 0) (xs ys : List A) → Some P ys → Some P (xs ++ ys)
  some_second P [] ys h = h
  some_second P (x ∷ xs) ys h = inr (some_second P xs ys h)

-- what a function makes of one
pub some_map : {A B : Type 0} (f : A → B) (x : A) (xs : List A) → Some (λ y. y ≡ x) xs → Some (λ z. z ≡ f x) (map f xs)
some_map f x [] h = absurd h
some_map f x (y ∷ ys) h = ⊎_elim (λ k. inl (ap f k)) (λ k. inr (some_map f x ys k)) h
