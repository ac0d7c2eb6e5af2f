-- The definitions' words for a whole list, from the library's: whether all pass a test, whether one does, and a sum. Assumes nothing.
use mathlib.Core.Logic.{◌↔◌}
use Rattle.std.specs.List.{list_all, list_any, sum_by, All, Any}
use Rattle.std.proofs.lemmas.List.Sums.{sum_by-cons, list_all-from_AllPass, AllPass-from_list_all}
use Rattle.std.proofs.lemmas.List.Folds.{Any-from_list_any, list_any-from_Any}
use Prim.Native.Nat.{ℕ, ◌+◌}
use mathlib.Core.Path.{◌≡◌, refl, sym, ap, ◌∙◌}
use mathlib.Core.Bool.{Bool, true, false, ◌&&◌, ◌||◌}
use mathlib.Core.List.{List, [], ◌∷◌}
use Rattle.model.specs.Lists.{all, any, total}

-- two tests that pass alike are one value
alike : (a b : Bool) → (a ≡ true → b ≡ true) → (b ≡ true → a ≡ true) → a ≡ b
alike true b f g = sym (f refl)
alike false true f g = g refl
alike false false f g = refl

module _ {A : Type 0} where
  pub all_is : (p : A → Bool) (xs : List A) → list_all p xs ≡ all p xs
  unfolding all
  all_is p [] = refl
  all_is p (x ∷ xs) = ap (λ (b : Bool). p x && b) (all_is p xs)

  pub any_is : (p : A → Bool) (xs : List A) → list_any p xs ≡ any p xs
  unfolding any
  any_is p [] = refl
  any_is p (x ∷ xs) = ap (λ (b : Bool). p x || b) (any_is p xs)

  pub total_is : (f : A → ℕ) (xs : List A) → sum_by f xs ≡ total f xs
  unfolding total
  total_is f [] = refl
  total_is f (x ∷ xs) = sum_by-cons f x xs ∙ ap (λ (n : ℕ). f x + n) (total_is f xs)

  -- what `all` and `any` of an iterator say
  pub all_by : (p : A → Bool) (xs : List A) {r : Bool} → (r ≡ true) ↔ All (λ x. p x ≡ true) xs → r ≡ all p xs
  all_by p xs {r} e =
      alike r (list_all p xs) (λ t. list_all-from_AllPass p xs (e.0 t)) (λ t. e.1 (AllPass-from_list_all p xs t)) ∙ all_is p xs

  pub any_by : (p : A → Bool) (xs : List A) {r : Bool} → (r ≡ true) ↔ Any (λ x. p x ≡ true) xs → r ≡ any p xs
  any_by p xs {r} e =
      alike r (list_any p xs) (λ t. list_any-from_Any p xs (e.0 t)) (λ t. e.1 (Any-from_list_any p xs t)) ∙ any_is p xs
