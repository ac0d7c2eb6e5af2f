-- What a test says as a plain fact, and back: for the tests on numbers, for what joins tests, and for lists. Assumes nothing.
use Prim.Native.Nat.{ℕ, ◌≤◌}
use mathlib.Core.Path.{◌≡◌, refl, sym}
use mathlib.Core.Logic.{◌⊎◌, inl, inr, ⊎_elim}
use mathlib.Core.Bool.{Bool, true, false, not, ◌&&◌, ◌||◌}
use mathlib.Core.List.{List, [], ◌∷◌}
use lib.Dec.{leb, eqb}
use borrow.Author.Tests.{leb-true, le-leb, eqb-true, eq-eqb}
use Rattle.model.specs.Lists.{all, any}
use Rattle.model.proofs.Bools.{and_left, and_right, and_both, not_both, not_true_false}
use Rattle.model.specs.Words.{Each}

abbrev pub Says : Bool → Type 0 → Type 0
Says b P = (b ≡ true → P) × (P → b ≡ true)

pub says_le : (a b : ℕ) → Says (leb a b) (a ≤ b)
says_le a b = (leb-true a b, le-leb a b)

pub says_eq : (a b : ℕ) → Says (eqb a b) (a ≡ b)
says_eq a b = (eqb-true a b, eq-eqb a b)

module _ {P Q : Type 0} where
  pub says_and : {a b : Bool} → Says a P → Says b Q → Says (a && b) (P × Q)
  says_and {a} {b} s t = (
    λ e. (s.0 (and_left a b e), t.0 (and_right a b e)),
    λ h. and_both (s.1 h.0) (t.1 h.1),
  )

  pub says_or : {a b : Bool} → Says a P → Says b Q → Says (a || b) (P ⊎ Q)
  says_or {a = true} s t = (λ e. inl (s.0 refl), λ h. refl)
  says_or {a = false} s t = (λ e. inr (t.0 e), ⊎_elim (λ p. absurd (not_both (s.1 p) refl)) t.1)

  -- the second, unless the first
  pub says_unless : {a b : Bool} → Says a P → Says b Q → Says (a || b) ((P → ⊥) → Q)
  says_unless {a = true} s t = (λ e n. absurd (n (s.0 refl)), λ h. refl)
  says_unless {a = false} s t = (λ e n. t.0 e, λ h. t.1 (h (λ p. not_both (s.1 p) refl)))

  -- a fact in other words
  pub says_too : {b : Bool} → (P → Q) → (Q → P) → Says b P → Says b Q
  says_too f g s = (λ e. f (s.0 e), λ h. s.1 (g h))

  -- two tests that say the same are the same
  pub says_same : {a b : Bool} → (P → Q) → (Q → P) → Says a P → Says b Q → a ≡ b
  says_same {a = true} f g s t = sym (t.1 (f (s.0 refl)))
  says_same {a = false} f g s t = sym (not_true_false (λ e. not_both (s.1 (g (t.0 e))) refl))

-- a first test that passes, or fails, beside a second
pub or_yes : {a : Bool} (b : Bool) → a ≡ true → true ≡ (a || b)
or_yes b e = rw e

pub or_no : {a r : Bool} (b : Bool) → a ≡ false → r ≡ b → r ≡ (a || b)
or_no b e f = rw (e, f)

-- a test fails where what it says cannot be
pub fails : {P : Type 0} {b : Bool} → Says b P → (P → ⊥) → false ≡ b
fails s n = sym (not_true_false (λ e. n (s.0 e)))

pub says_itself : (b : Bool) → Says b (b ≡ true)
says_itself b = (λ e. e, λ e. e)

pub says_not : {P : Type 0} {b : Bool} → Says b P → Says (not b) (P → ⊥)
says_not {b = true} s = (λ e. absurd (not_both e refl), λ h. absurd (h (s.0 refl)))
says_not {b = false} s = (λ e p. not_both (s.1 p) refl, λ h. refl)

neither : (a b : Bool) → not (a || b) ≡ (not a && not b)
neither true b = refl
neither false b = refl

module _ {A : Type 0} (p : A → Bool) (P : A → Type 0) (s : (x : A) → Says (p x) (P x)) where
  pub says_all : (xs : List A) → Says (all p xs) (Each P xs)
  unfolding all
  says_all [] = (λ e. tt, λ h. refl)
  says_all (x ∷ xs) = says_and (s x) (says_all xs)

  pub says_none : (xs : List A) → Says (not (any p xs)) (Each (λ x. P x → ⊥) xs)
  unfolding any
  says_none [] = (λ e. tt, λ h. refl)
  says_none (x ∷ xs) = rw (neither (p x) (any p xs)) (says_and (says_not (s x)) (says_none xs))
