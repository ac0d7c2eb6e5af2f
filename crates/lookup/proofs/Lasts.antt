-- The last place that passes a test: when there is one, and how a test that lets more pass leads to it. Assumes nothing.
use Prim.Native.Nat.{ℕ, zero, suc, ◌≤◌, ◌<◌}
use mathlib.Core.Path.{◌≡◌, refl, sym, ◌∙◌}
use mathlib.Core.Bool.{Bool, true, false}
use mathlib.Core.List.{List}
use native.Mathlib.Decide.{ℕ_discrete}
use native.Mathlib.Omega.{arith}
use lib.ListN.{get_or}
use Rattle.model.specs.declared.Order.{Order}
use Rattle.model.specs.Book.{free}
use Rattle.model.proofs.Bools.{not_both, not_true_false}
use Rattle.lookup.specs.Piles.{last_of}

module _ (t : Order → Bool) (book : List Order) where
  pub last_zero : last_of t book 0 ≡ 0
  unfolding last_of
  last_zero = refl

  pub last_here : (i : ℕ) → t (get_or book i free) ≡ true → last_of t book (suc i) ≡ suc i
  unfolding last_of
  last_here i e = rw e

  pub last_past : (i : ℕ) → t (get_or book i free) ≡ false → last_of t book (suc i) ≡ last_of t book i
  unfolding last_of
  last_past i e = rw e

  pub last_most : (i : ℕ) → last_of t book i ≤ i
  last_most zero = omega (arith, last_zero)
  last_most (suc i) = go (t (get_or book i free)) refl (last_most i)
    where
      go : (b : Bool) → t (get_or book i free) ≡ b → last_of t book i ≤ i → last_of t book (suc i) ≤ suc i
      go true e h = omega (arith, last_here i e)
      go false e h = omega (arith, last_past i e)

  -- it passes, and is one of them
  pub last_passes : (i j : ℕ) → last_of t book i ≡ suc j → (t (get_or book j free) ≡ true) × (j < i)
  last_passes zero j e = absurd (omega (arith, last_zero))
  last_passes (suc i) j e = go (t (get_or book i free)) refl (last_passes i j)
    where
      go :
          (b : Bool)
          → t (get_or book i free) ≡ b
          → (last_of t book i ≡ suc j → (t (get_or book j free) ≡ true) × (j < i))
          → (t (get_or book j free) ≡ true) × (j < suc i)
      go true f more = let same : i ≡ j = omega (arith, last_here i f) in rw (sym same) (f, omega arith)
      go false f more = let h = more (sym (last_past i f) ∙ e) in (h.0, omega (arith, h.1))

  -- where there is none, none of them passes
  pub last_none : (i : ℕ) → last_of t book i ≡ 0 → (j : ℕ) → j < i → t (get_or book j free) ≡ false
  last_none zero e j h = absurd (omega arith)
  last_none (suc i) e j h = go (t (get_or book i free)) refl (last_none i)
    where
      go :
          (b : Bool)
          → t (get_or book i free) ≡ b
          → (last_of t book i ≡ 0 → (j : ℕ) → j < i → t (get_or book j free) ≡ false)
          → t (get_or book j free) ≡ false
      go true f more = absurd (omega (arith, last_here i f))
      go false f more = elim (ℕ_discrete j i) [
        | yes s ↦ rw s f
        | no n ↦ more (sym (last_past i f) ∙ e) j (omega arith)
      ]

-- a test that lets more pass: before its last place nothing is missed
module _ (t u : Order → Bool) (more : (o : Order) → t o ≡ true → u o ≡ true) (book : List Order) where
  pub last_of_last : (i : ℕ) → last_of t book (last_of u book i) ≡ last_of t book i
  last_of_last zero = rw (last_zero u book)
  last_of_last (suc i) = go (u (get_or book i free)) refl (last_of_last i)
    where
      go :
          (b : Bool)
          → u (get_or book i free) ≡ b
          → last_of t book (last_of u book i) ≡ last_of t book i
          → last_of t book (last_of u book (suc i)) ≡ last_of t book (suc i)
      go true e h = rw (last_here u book i e)
      go false e h =
          let off : t (get_or book i free) ≡ false = not_true_false (λ f. not_both (more (get_or book i free) f) e) in
          rw (last_past u book i e) (h ∙ sym (last_past t book i off))
