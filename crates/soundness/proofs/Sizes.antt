-- The test of an order's quantity says just that it is sized, and then it is at most 1,000,000. Assumes nothing.
use Prim.Native.Nat.{ℕ, ◌≤◌}
use mathlib.Core.Path.{◌≡◌, refl}
use mathlib.Core.Logic.{⊎_elim}
use mathlib.Core.Bool.{Bool, true, false, cond, ◌&&◌, ◌||◌}
use native.Mathlib.Omega.{arith}
use lib.Dec.{eqb}
use borrow.Author.Tests.{eqb-true, eqb-false}
use Rattle.model.specs.Limits.{in_size, is_odd_lot, is_quantity}
use Rattle.model.specs.Words.{Sized, InSize, OddLot}
use Rattle.soundness.proofs.Says.{Says, says_le, says_eq, says_and, says_or, says_too}

module _ (side q balance : ℕ) where
  says_size : Says (in_size q) (InSize q)
  says_size = says_and (says_le 100 q) (says_le q 1_000_000)

  says_odd_lot : Says (is_odd_lot q balance) (OddLot q balance)
  says_odd_lot =
      says_too
      (λ h. (h.0.0, h.0.1, h.1))
      (λ h. ((h.0, h.1), h.2))
      (says_and (says_and (says_le 1 q) (says_le q 99)) (says_eq q balance))

  pub says_quantity : Says (is_quantity side q balance) (Sized side q balance)
  unfolding is_quantity
  says_quantity = go (eqb side 0) refl
    where
      go :
          (t : Bool)
          → eqb side 0 ≡ t
          → Says (cond t (in_size q && eqb balance 0) (in_size q || is_odd_lot q balance)) (Sized side q balance)
      go true e =
          let s : side ≡ 0 = eqb-true side 0 e in
          says_too
          (λ h. record { buy = λ _. h; sell = λ n. absurd (n s) })
          (λ h. h.buy s)
          (says_and says_size (says_eq balance 0))
      go false e =
          let n : side ≡ 0 → ⊥ = eqb-false side 0 e in
          says_too
          (λ h. record { buy = λ s. absurd (n s); sell = λ _. h })
          (λ h. h.sell n)
          (says_or says_size says_odd_lot)

  pub sized_most : Sized side q balance → q ≤ 1_000_000
  sized_most s = go (eqb side 0) refl
    where
      go : (t : Bool) → eqb side 0 ≡ t → q ≤ 1_000_000
      go true e = (s.buy (eqb-true side 0 e)).0.1
      go false e = ⊎_elim (λ h. h.1) (λ (h : OddLot q balance). let m : q ≤ 99 = h.1 in omega arith) (s.sell (eqb-false side 0 e))
