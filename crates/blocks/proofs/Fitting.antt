-- Which two cannot fit: one with itself, two of one side, and a free place with anybody. Where two fit, each fits the other.
use Prim.Native.Nat.{◌≤◌}
use mathlib.Core.Path.{◌≡◌, sym, ap, ◌∙◌}
use mathlib.Core.Bool.{true, false}
use native.Mathlib.Omega.{arith}
use native.Mathlib.Decide.{ℕ_discrete}
use Rattle.model.specs.declared.Declaration.{Declaration}
use Rattle.model.specs.Book.{other}
use Rattle.model.specs.Blocks.{fits}
use Rattle.model.proofs.Bools.{not_true_false}
use Rattle.declarations.specs.Declared.{WellFormed}
use Rattle.partners.proofs.Tests.{same_when_true}
use Rattle.partners.proofs.Buyers.{fits_fitting, fitting_fits, other_buyer, other_seller, free_price}

pub same_side : (x y : Declaration) → x.side ≡ y.side → fits x y ≡ false
same_side x y e =
    not_true_false
    (λ f.
    let s : x.side ≡ other y.side = (fits_fitting x y f).side in
    elim (ℕ_discrete y.side 0) [
      | yes z ↦ omega (arith, other_buyer y.side z)
      | no n ↦ n (sym e ∙ s ∙ other_seller y.side n)
    ])

-- one with a price does not fit a free place
pub unfit_free : (x y : Declaration) → 1 ≤ x.price → WellFormed y → y.number ≡ 0 → fits x y ≡ false
unfit_free x y p w z =
    let none : y.price ≡ 0 = ap (λ (t : Declaration). t.price) (w.none z) ∙ free_price in
    not_true_false (λ f. omega (arith, (fits_fitting x y f).price))

module _ (x y : Declaration) (s : x.side ≤ 1) (t : y.side ≤ 1) where
  opposite : x.side ≡ other y.side → y.side ≡ other x.side
  opposite e = elim (ℕ_discrete y.side 0) [
    | yes z ↦ z ∙ sym (other_seller x.side (λ h. omega (arith, other_buyer y.side z)))
    | no n ↦ omega (arith, n, other_buyer x.side (e ∙ other_seller y.side n))
  ]

  turned : fits x y ≡ true → fits y x ≡ true
  turned e =
      let f = fits_fitting x y e in
      fitting_fits
      record {
        price = sym f.price;
        quantity = sym f.quantity;
        agreement = sym f.agreement;
        side = opposite f.side;
        counter = f.account;
        account = f.counter;
      }

pub fits_turned : (x y : Declaration) → x.side ≤ 1 → y.side ≤ 1 → fits x y ≡ fits y x
fits_turned x y s t = same_when_true (fits x y) (fits y x) (turned x y s t) (turned y x t s)
