-- A buyer and the earliest that fits: there is nobody, or one who comes before all others that fit. Assumes nothing.
use Prim.Native.Nat.{◌≤◌}
use mathlib.Core.Path.{◌≡◌, refl}
use mathlib.Core.Logic.{◌⊎◌, inl, inr, ⊎_elim}
use mathlib.Core.Bool.{Bool, true, false}
use mathlib.Core.List.{List, [], ◌∷◌}
use native.Mathlib.Omega.{arith}
use native.Mathlib.Decide.{ℕ_discrete}
use Rattle.model.specs.declared.Declaration.{Declaration}
use Rattle.model.specs.Blocks.{fits, confirmation, with_earliest}
use Rattle.model.specs.Words.{Each, Some}
use Rattle.model.proofs.Bools.{not_both}
use Rattle.book.proofs.Lists.{each}
use Rattle.block_demands.proofs.Members.{some_with, Later, InTurn}
use Rattle.block_demands.proofs.Naming.{number_of}

pub record Partner (b s : Declaration) (held : List Declaration) : Type 0 where
  pub fit : fits b s ≡ true
  pub made : with_earliest b held ≡ confirmation b s ∷ []
  pub first : Each (λ y. fits b y ≡ true → (y.number ≡ 0 → ⊥) → s.number ≤ y.number) held

pub record Nobody (b : Declaration) (held : List Declaration) : Type 0 where
  pub none : Each (λ y. fits b y ≡ false) held
  pub made : with_earliest b held ≡ []

pub meets :
    (b : Declaration) (held : List Declaration)
    → InTurn number_of held
    → Nobody b held ⊎ Some (λ s. Partner b s held) held
unfolding with_earliest
meets b [] r = inl (record { none = tt; made = refl })
meets b (y ∷ ys) r = go (fits b y) refl (meets b ys r.1)
  where
    behind : (z : Declaration) → Later number_of y z → (z.number ≡ 0 → ⊥) → y.number ≤ z.number
    behind z l n = elim (ℕ_discrete y.number 0) [ yes k ↦ omega (arith, k) | no k ↦ omega (arith, l k n) ]

    go :
        (t : Bool)
        → fits b y ≡ t
        → Nobody b ys ⊎ Some (λ s. Partner b s ys) ys
        → Nobody b (y ∷ ys) ⊎ Some (λ s. Partner b s (y ∷ ys)) (y ∷ ys)
    go true e rest =
        inr
        (inl
        (record {
          fit = e;
          made = rw e;
          first = (
            λ _ _. omega arith,
            each (Later number_of y) (λ z. fits b z ≡ true → (z.number ≡ 0 → ⊥) → y.number ≤ z.number) ys (λ z l _ n. behind z l n) r.0,
          );
        }))
    go false e rest =
        ⊎_elim
        (λ (k : Nobody b ys). inl (record { none = (e, k.none); made = rw e k.made }))
        (λ k.
        inr
        (inr
        (some_with (λ s. Partner b s ys) (λ s. Partner b s (y ∷ ys)) ys
        (λ s (p : Partner b s ys).
        record { fit = p.fit; made = rw e p.made; first = (λ t _. absurd (not_both t e), p.first) })
        k)))
        rest
