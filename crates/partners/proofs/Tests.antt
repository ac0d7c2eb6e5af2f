-- Laws of lists in which some pass a test, or none, and of what a function makes of a list. Assumes nothing.
use Rattle.std.specs.Prelude.{if◌then◌else◌}
use mathlib.Core.Path.{◌≡◌, refl, sym, ap}
use mathlib.Core.Bool.{Bool, true, false, ◌||◌}
use mathlib.Core.List.{List, [], ◌∷◌, ◌++◌, map}
use Rattle.model.specs.Lists.{keep, any}
use Rattle.model.specs.Words.{Each}
use Rattle.model.proofs.Bools.{not_both}

module _ {A : Type 0} (p : A → Bool) where
  pub any_none : (xs : List A) → any p xs ≡ false → Each (λ x. p x ≡ false) xs
  unfolding any
  any_none [] e = tt
  any_none (x ∷ xs) e = go (p x) refl e (any_none xs)
    where
      go :
          (b : Bool)
          → p x ≡ b
          → b || any p xs ≡ false
          → (any p xs ≡ false → Each (λ y. p y ≡ false) xs)
          → Each (λ y. p y ≡ false) (x ∷ xs)
      go true f h r = absurd (not_both refl h)
      go false f h r = (f, r h)

  pub none_any : (xs : List A) → Each (λ x. p x ≡ false) xs → any p xs ≡ false
  unfolding any
  none_any [] e = refl
  none_any (x ∷ xs) e = rw e.0 (none_any xs e.1)

  -- what all that are kept have, all have that pass
  pub each_of_kept : (P : A → Type 0) (xs : List A) → Each P (keep p xs) → Each (λ x. p x ≡ true → P x) xs
  unfolding keep
  each_of_kept P [] e = tt
  each_of_kept P (x ∷ xs) e = go (p x) refl e (each_of_kept P xs)
    where
      go :
          (b : Bool)
          → p x ≡ b
          → Each P (if b then x ∷ keep p xs else keep p xs)
          → (Each P (keep p xs) → Each (λ y. p y ≡ true → P y) xs)
          → Each (λ y. p y ≡ true → P y) (x ∷ xs)
      go true f h r = ((λ g. h.0), r h.1)
      go false f h r = ((λ g. absurd (not_both g f)), r h)

  pub any_append : (xs ys : List A) → any p (xs ++ ys) ≡ any p xs || any p ys
  unfolding any
  any_append [] ys = refl
  any_append (x ∷ xs) ys = go (p x) (any_append xs ys)
    where
      go : (b : Bool) → any p (xs ++ ys) ≡ any p xs || any p ys → b || any p (xs ++ ys) ≡ (b || any p xs) || any p ys
      go true h = refl
      go false h = h

-- what a function makes of each
pub each_map : {A B : Type 0} (f : A → B) (P : B → Type 0) (xs : List A) → Each (λ x. P (f x)) xs → Each P (map f xs)
each_map f P [] e = tt
each_map f P (x ∷ xs) e = (e.0, each_map f P xs e.1)

pub keep_map : {A B : Type 0} (f : A → B) (p : B → Bool) (xs : List A) → keep p (map f xs) ≡ map f (keep (λ x. p (f x)) xs)
unfolding keep
keep_map f p [] = refl
keep_map {A} {B} f p (x ∷ xs) = go (p (f x)) (keep_map f p xs)
  where
    go :
        (b : Bool)
        → keep p (map f xs) ≡ map f (keep (λ y. p (f y)) xs)
        → (if b then f x ∷ keep p (map f xs) else keep p (map f xs)) ≡ map f (if b then x ∷ keep (λ y. p (f y)) xs else keep (λ y. p (f y)) xs)
    go true h = ap (λ (l : List B). f x ∷ l) h
    go false h = h

-- two tests that pass together, or fail together, are the same
pub same_when_true : (a b : Bool) → (a ≡ true → b ≡ true) → (b ≡ true → a ≡ true) → a ≡ b
same_when_true true true f g = refl
same_when_true true false f g = sym (f refl)
same_when_true false true f g = g refl
same_when_true false false f g = refl

pub same_when_false : (a b : Bool) → (a ≡ false → b ≡ false) → (b ≡ false → a ≡ false) → a ≡ b
same_when_false true true f g = refl
same_when_false true false f g = g refl
same_when_false false true f g = sym (f refl)
same_when_false false false f g = refl
