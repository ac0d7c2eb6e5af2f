-- Two declarations that fit: what it says, that it goes both ways, and that a free place fits nobody. Assumes nothing.
use Prim.Native.Nat.{ℕ, ◌≤◌}
use mathlib.Core.Path.{◌≡◌, refl, sym, ap}
use mathlib.Core.Logic.{⊎_elim}
use mathlib.Core.Bool.{Bool, true, false, cond}
use native.Mathlib.Omega.{arith}
use lib.Dec.{eqb}
use native.Mathlib.Decide.{ℕ_discrete}
use borrow.Author.Tests.{eqb-true, eqb-false}
use Rattle.model.specs.declared.Declaration.{Declaration}
use Rattle.model.specs.declared.Day.{Day}
use Rattle.model.specs.Book.{other}
use Rattle.model.specs.Blocks.{undeclared, fits}
use Rattle.model.proofs.Bools.{not_true_false}
use Rattle.soundness.proofs.Says.{Says, says_eq, says_and, says_too}
use Rattle.block_demands.specs.Held.{Declares, Place}

pub record Fit (x y : Declaration) : Type 0 where
  pub price : x.price ≡ y.price
  pub quantity : x.quantity ≡ y.quantity
  pub agreement : x.agreement ≡ y.agreement
  pub side : x.side ≡ other y.side
  pub names : x.counter ≡ y.account
  pub named : y.counter ≡ x.account

pub says_fits : (x y : Declaration) → Says (fits x y) (Fit x y)
unfolding fits
says_fits x y =
    says_too
    (λ h.
    record {
      price = h.0.0.0.0.0;
      quantity = h.0.0.0.0.1;
      agreement = h.0.0.0.1;
      side = h.0.0.1;
      names = h.0.1;
      named = h.1;
    })
    (λ (f : Fit x y). (((((f.price, f.quantity), f.agreement), f.side), f.names), f.named))
    (says_and
    (says_and
    (says_and
    (says_and (says_and (says_eq x.price y.price) (says_eq x.quantity y.quantity)) (says_eq x.agreement y.agreement))
    (says_eq x.side (other y.side)))
    (says_eq x.counter y.account))
    (says_eq y.counter x.account))

-- ---- the sides

-- a side is 0 or 1, and the other one is not this one
pub other_side : (side other-one : ℕ) → side ≤ 1 → other-one ≡ other side → (side ≡ 0 → other-one ≡ 1) × (side ≡ 1 → other-one ≡ 0) × (other-one ≡ 0 → side ≡ 1)
unfolding other
other_side side other-one l e = go (eqb side 0) refl e
  where
    go :
        (b : Bool)
        → eqb side 0 ≡ b
        → other-one ≡ cond b 1 0
        → (side ≡ 0 → other-one ≡ 1) × (side ≡ 1 → other-one ≡ 0) × (other-one ≡ 0 → side ≡ 1)
    go true z f =
        let s : side ≡ 0 = eqb-true side 0 z in
        (λ _. f, λ o. absurd (omega (arith, s, o)), λ o. absurd (omega (arith, f, o)))
    go false z f =
        let s : side ≡ 0 → ⊥ = eqb-false side 0 z in
        (λ o. absurd (s o), λ _. f, λ _. omega (arith, s))

turned : (a b : ℕ) → a ≤ 1 → b ≤ 1 → a ≡ other b → b ≡ other a
unfolding other
turned a b l m e = go (eqb a 0) refl (other_side b a m e)
  where
    go : (t : Bool) → eqb a 0 ≡ t → (b ≡ 0 → a ≡ 1) × (b ≡ 1 → a ≡ 0) × (a ≡ 0 → b ≡ 1) → b ≡ cond t 1 0
    go true z h = h.2 (eqb-true a 0 z)
    go false z h =
        let n : a ≡ 0 → ⊥ = eqb-false a 0 z in
        elim (ℕ_discrete b 0) [ yes k ↦ k | no k ↦ absurd (n (h.1 (omega (arith, k)))) ]

module _ (x y : Declaration) (l : x.side ≤ 1) (m : y.side ≤ 1) where
  pub fits_turned : fits x y ≡ true → fits y x ≡ true
  fits_turned e =
      let f = (says_fits x y).0 e in
      (says_fits y x).1
      (record {
        price = sym f.price;
        quantity = sym f.quantity;
        agreement = sym f.agreement;
        side = turned x.side y.side l m f.side;
        names = f.named;
        named = f.names;
      })

  -- one of the two buys, and the other sells
  pub buyer_fits : fits x y ≡ true → x.side ≡ 0 → y.side ≡ 1
  buyer_fits e z = (other_side y.side x.side m ((says_fits x y).0 e).side).2 z

  pub seller_fits : fits x y ≡ true → x.side ≡ 1 → y.side ≡ 0
  seller_fits e z =
      let h = other_side y.side x.side m ((says_fits x y).0 e).side in
      elim (ℕ_discrete y.side 0) [ yes k ↦ k | no k ↦ absurd (omega (arith, z, h.1 (omega (arith, k)))) ]

-- ---- a free place

no_side : (undeclared.side ≡ 0) × (other undeclared.side ≡ 1)
unfolding undeclared other
no_side = (refl, refl)

no_price : undeclared.price ≡ 0
unfolding undeclared
no_price = refl

module _ (d : Day) (x : Declaration) (p : Place d x) where
  pub fits_undeclared : fits x undeclared ≡ false
  fits_undeclared =
      not_true_false
      (λ e.
      let f = (says_fits x undeclared).0 e in
      ⊎_elim
      (λ k. absurd (omega (arith, no_side, ap (λ (y : Declaration). y.side) k, f.side)))
      (λ (r : Declares d x). absurd (omega (arith, r.price.low, f.price, no_price)))
      p)

  pub undeclared_fits : fits undeclared x ≡ false
  undeclared_fits =
      not_true_false
      (λ e.
      let f = (says_fits undeclared x).0 e in
      ⊎_elim
      (λ k. absurd (omega (arith, no_side, f.side, ap (λ (y : Declaration). other y.side) k)))
      (λ (r : Declares d x). absurd (omega (arith, r.price.low, f.price, no_price)))
      p)
