-- An order's rules but 13 on a sound day, one group after the other, and what the order is once none of them holds. Assumes nothing.
use Prim.Native.Nat.{ℕ, ◌≤◌}
use mathlib.Core.Path.{◌≡◌, refl, sym, ◌∙◌}
use mathlib.Core.Bool.{Bool, true, false}
use mathlib.Core.List.{List, ◌++◌}
use lib.Dec.{leb, eqb}
use borrow.Author.Tests.{eqb-false, leb-true, not-false}
use Rattle.model.specs.declared.Order.{Order}
use Rattle.model.specs.declared.Asked.{Asked}
use Rattle.model.specs.declared.Day.{Day}
use Rattle.model.specs.Limits.{is_price}
use Rattle.model.specs.Figures.{reference}
use Rattle.model.specs.Refusals.{◌when◌, first_of}
use Rattle.model.proofs.Bools.{and_left}
use Rattle.model.proofs.Rules.{NoneHolds, none_holds, given_by, passed_by}
use Rattle.soundness.proofs.Clauses.{says_price}
use Rattle.checks.specs.Checks.{form_rules, hour_rules, number_rules, asked_rules, book_rules}
use Rattle.soundness.specs.Ready.{Ready}
use Rattle.checks.proofs.AskedRules.{asked_numbered}

-- ---- what a sound day gives

pub close_is_price : (d : Day) (book : List Order) → Ready d book → is_price d.close ≡ true
close_is_price d book r = (says_price d.close).1 r.sound.close

pub reference_is_price : (d : Day) (book : List Order) → Ready d book → is_price (reference d) ≡ true
unfolding reference
reference_is_price d book r = go (eqb d.last 0) refl
  where
    traded : (d.last ≡ 0 → ⊥) → is_price d.last ≡ true
    traded n = (says_price d.last).1 (r.sound.traded (λ z. n (r.sound.untraded z).1)).1

    go : (b : Bool) → eqb d.last 0 ≡ b → is_price (reference d) ≡ true
    go true e = rw e (close_is_price d book r)
    go false e = rw e (traded (λ z. eqb-false d.last 0 e z))

-- ---- the rules before the list, one group after the other

module _ (d : Day) (a : Asked) (book : List Order) {f : ℕ} (e : f ≡ first_of (asked_rules d a)) where
  pub earlier_asked : (f ≡ 0 → ⊥) → f ≡ first_of (asked_rules d a ++ book_rules d a book)
  earlier_asked n = given_by (asked_rules d a) (book_rules d a book) e n

  module _ (z : f ≡ 0) where
    pub earlier_book : {r : ℕ} → r ≡ first_of (book_rules d a book) → r ≡ first_of (asked_rules d a ++ book_rules d a book)
    earlier_book g = passed_by (asked_rules d a) (book_rules d a book) (asked_numbered d a) e z g

    none_asked : NoneHolds (asked_rules d a)
    none_asked = none_holds (asked_rules d a) (asked_numbered d a) (sym e ∙ z)

    -- rule 2 does not hold
    pub asked_side : a.side ≤ 1
    unfolding asked_rules form_rules hour_rules number_rules ◌when◌
    asked_side = leb-true a.side 1 (and_left (leb a.side 1) (leb a.kind 4) (not-false _ none_asked.0))

    -- nor rule 7
    pub asked_price : is_price a.price ≡ true
    unfolding asked_rules form_rules hour_rules number_rules ◌when◌
    asked_price = not-false _ none_asked.1.1.1.1.1.0
