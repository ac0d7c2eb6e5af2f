-- Two surpluses compared in memory. Assumes nothing.
use mathlib.Core.Path.{◌≡◌, refl, sym, ap, ◌∙◌}
use mathlib.Core.Bool.{Bool, true, false}
use lib.IntN.{ℤ}
use lib.Dec.{eqb}
use borrow.Author.Tests.{eqb-true, eqb-false}
use mir.Syntax.{w64}
use mir.Val.{SFits, to_z, of_z}
use mir.ValLaws.{to_z-of_z}
use Rattle.model.specs.Screen.{same_surplus}
use Rattle.model.proofs.Bools.{not_true_false}
use Rattle.model.proofs.SameScreens.{surplus_same, surplus_equal}

-- the surplus stands in memory as it is
pub surplus_is : (a b : ℤ) → SFits w64 a → SFits w64 b → eqb (of_z w64 a) (of_z w64 b) ≡ same_surplus a b
surplus_is a b f g = go (eqb (of_z w64 a) (of_z w64 b)) refl
  where
    go : (t : Bool) → eqb (of_z w64 a) (of_z w64 b) ≡ t → t ≡ same_surplus a b
    go true e =
        let s : a ≡ b = sym (to_z-of_z w64 a f) ∙ ap (to_z w64) (eqb-true (of_z w64 a) (of_z w64 b) e) ∙ to_z-of_z w64 b g in
        sym (surplus_same a) ∙ ap (same_surplus a) s
    go false e =
        sym
        (not_true_false
        (λ t. eqb-false (of_z w64 a) (of_z w64 b) e (ap (of_z w64) (surplus_equal a b t))))
