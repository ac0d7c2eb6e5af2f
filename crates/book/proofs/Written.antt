-- Trades put one after the other are written at the front of the lent list; a list that holds them all is what the definitions write.
use Prim.Native.Nat.{ℕ, suc, ◌≤◌}
use mathlib.Core.Path.{◌≡◌, refl, ap, ◌∙◌}
use mathlib.Core.List.{List, [], ◌∷◌, ◌++◌}
use lib.ListN.{length, take, drop, set}
use lib.Seq.{sets, take_all, take_at, take-nil}
use Rattle.model.specs.declared.Trade.{Trade}
use Rattle.model.specs.Calls.{written}
use Rattle.book.specs.Writing.{fitted}

-- ---- one after the other

module _ {A : Type 0} where
  sets_none : (xs : List A) (i : ℕ) → sets [] i xs ≡ []
  sets_none [] i = refl
  sets_none (x ∷ xs) i = sets_none xs (suc i)

  sets_behind : (xs : List A) (y : A) (l : List A) (i : ℕ) → sets (y ∷ l) (suc i) xs ≡ y ∷ sets l i xs
  sets_behind [] y l i = refl
  sets_behind (x ∷ xs) y l i = sets_behind xs y (set l i x) (suc i)

  pub sets_fitted : (xs l : List A) → sets l 0 xs ≡ fitted xs l
  unfolding fitted
  sets_fitted [] l = rw (take-nil {A = A} (length l))
  sets_fitted (x ∷ xs) [] = sets_none xs 1
  sets_fitted (x ∷ xs) (y ∷ l) = sets_behind xs x l 0 ∙ ap (λ (t : List A). x ∷ t) (sets_fitted xs l)

  pub fitted_nil : (l : List A) → fitted [] l ≡ l
  unfolding fitted
  fitted_nil l = rw (take-nil {A = A} (length l))

  pub fitted_all : (xs l : List A) → length xs ≤ length l → fitted xs l ≡ xs ++ drop (length xs) l
  unfolding fitted
  fitted_all xs l h = rw (take_all (length l) xs h)

-- ---- a list that holds all trades

module _ (ts l : List Trade) (h : length ts ≤ length l) where
  -- the written trades are read back from the front
  pub fitted_trades : take (length ts) (fitted ts l) ≡ ts
  fitted_trades = ap (take (length ts)) (fitted_all ts l h) ∙ take_at ts (drop (length ts) l) (length ts) refl

  -- and the whole list is what the definitions write
  pub fitted_written : fitted ts l ≡ written ts l
  unfolding written
  fitted_written = fitted_all ts l h
