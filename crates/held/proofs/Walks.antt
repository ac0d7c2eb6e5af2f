-- Tests that all places pass.
use mathlib.Core.Path.{◌≡◌, refl, ap}
use mathlib.Core.Bool.{Bool, true, ◌&&◌}
use mathlib.Core.List.{List, [], ◌∷◌}
use Rattle.std.specs.List.{list_all}
use Rattle.model.specs.Lists.{all}
use Rattle.model.specs.Words.{Each}
use Rattle.model.proofs.Bools.{and_left, and_right}

-- ---- what all pass, each does

-- the library's word for it
pub all_is : {A : Type 0} (p : A → Bool) (xs : List A) → list_all p xs ≡ all p xs
unfolding all
all_is p [] = refl
all_is p (x ∷ xs) = ap (λ (b : Bool). p x && b) (all_is p xs)

module _ {A : Type 0} (p : A → Bool) where
  pub all_each : (xs : List A) → all p xs ≡ true → Each (λ x. p x ≡ true) xs
  unfolding all
  all_each [] e = tt
  all_each (x ∷ xs) e = (and_left (p x) (all p xs) e, all_each xs (and_right (p x) (all p xs) e))

  pub each_all : (xs : List A) → Each (λ x. p x ≡ true) xs → all p xs ≡ true
  unfolding all
  each_all [] e = refl
  each_all (x ∷ xs) e = rw e.0 (each_all xs e.1)
