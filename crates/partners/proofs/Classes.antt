-- A buyer and a seller fit exactly where their classes are the same. Assumes nothing.
use Prim.Native.Nat.{ℕ}
use mathlib.Core.Path.{◌≡◌, sym, ap, ◌∙◌}
use mathlib.Core.Bool.{true}
use mathlib.Core.List.{List, [], ◌∷◌}
use lib.ListN.{get_or}
use borrow.Author.Tests.{eq-eqb, ne_eqb}
use Rattle.model.specs.declared.Declaration.{Declaration}
use Rattle.model.specs.Blocks.{fits}
use Rattle.classes.specs.Classes.{buying_account, selling_account, class_of, is_same}
use Rattle.classes.proofs.Keys.{same_self, same_equal}
use Rattle.partners.proofs.Tests.{same_when_true}
use Rattle.partners.proofs.Buyers.{Fitting, fits_fitting, fitting_fits, other_seller}

-- the class of a buyer, and of a seller
abbrev bought : Declaration → List ℕ
bought x = x.price ∷ x.quantity ∷ x.agreement ∷ x.account ∷ x.counter ∷ []

abbrev sold : Declaration → List ℕ
sold x = x.price ∷ x.quantity ∷ x.agreement ∷ x.counter ∷ x.account ∷ []

class_of_buyer : (x : Declaration) → x.side ≡ 0 → class_of x ≡ bought x
unfolding class_of buying_account selling_account
class_of_buyer x e = rw (eq-eqb x.side 0 e)

class_of_seller : (x : Declaration) → (x.side ≡ 0 → ⊥) → class_of x ≡ sold x
unfolding class_of buying_account selling_account
class_of_seller x n = rw (ne_eqb x.side 0 n)

module _ (b s : Declaration) (e : b.side ≡ 0) (n : s.side ≡ 0 → ⊥) where
  fits_class : fits b s ≡ true → class_of b ≡ class_of s
  fits_class f =
      let two : Fitting b s = fits_fitting b s f in
      let same : bought b ≡ sold s = rw (two.price, two.quantity, two.agreement, two.counter, two.account) in
      class_of_buyer b e ∙ same ∙ sym (class_of_seller s n)

  class_fits : class_of b ≡ class_of s → fits b s ≡ true
  class_fits c =
      let same : bought b ≡ sold s = sym (class_of_buyer b e) ∙ c ∙ class_of_seller s n in
      fitting_fits
      record {
        price = ap (λ (l : List ℕ). get_or l 0 0) same;
        quantity = ap (λ (l : List ℕ). get_or l 1 0) same;
        agreement = ap (λ (l : List ℕ). get_or l 2 0) same;
        side = e ∙ sym (other_seller s.side n);
        counter = ap (λ (l : List ℕ). get_or l 4 0) same;
        account = sym (ap (λ (l : List ℕ). get_or l 3 0) same);
      }

  pub fits_same : fits b s ≡ is_same (class_of b) (class_of s)
  fits_same =
      same_when_true (fits b s) (is_same (class_of b) (class_of s))
      (λ f. ap (is_same (class_of b)) (sym (fits_class f)) ∙ same_self (class_of b))
      (λ f. class_fits (same_equal (class_of b) (class_of s) f))
