-- A call by whether it is refused: what holds of both outcomes holds of the call. Assumes nothing.
use Prim.Native.Nat.{ℕ}
use mathlib.Core.Path.{◌≡◌, refl}
use mathlib.Core.Bool.{Bool, true, false, cond, not}
use mathlib.Core.List.{List}
use lib.ListN.{length}
use lib.Dec.{eqb}
use borrow.Author.Tests.{eqb-true, eqb-false}
use Rattle.model.specs.declared.Order.{Order}
use Rattle.model.specs.declared.AskedFixed.{AskedFixed}
use Rattle.model.specs.declared.Trade.{Trade}
use Rattle.model.specs.declared.Day.{Day}
use Rattle.model.specs.declared.OrderReply as OrderReply
use Rattle.model.specs.declared.OrderAnswer.{OrderAnswer}
use Rattle.model.specs.declared.CancelReply as CancelReply
use Rattle.model.specs.Lists.{keep}
use Rattle.model.specs.Auction.{shares_of}
use Rattle.model.specs.FixedBook.{lined}
use Rattle.model.specs.Refusals.{first_of}
use Rattle.model.specs.Calls.{Outcome, is_own}
use Rattle.model.specs.FixedCalls.{fixed_rules, fixed_entered, fixed_call, FixedCancelOutcome, fixed_cancel_rules, fixed_cancel_call}

-- a number is 0 or not
pub by_number : {A : Type 0} (P : A → Type 0) (n : ℕ) (x y : A) → (n ≡ 0 → P x) → ((n ≡ 0 → ⊥) → P y) → P (cond (eqb n 0) x y)
by_number P n x y f g = go (eqb n 0) refl
  where
    go : (b : Bool) → eqb n 0 ≡ b → P (cond b x y)
    go true e = f (eqb-true n 0 e)
    go false e = g (eqb-false n 0 e)

module _ (d : Day) (a : AskedFixed) (main book : List Order) (lent : List Trade) where
  abbrev rule : ℕ
  rule = first_of (fixed_rules d a main book (length lent))

  pub fixed_cases :
      (P : Outcome OrderAnswer → Type 0)
      → (rule ≡ 0 → P (fixed_entered d a book lent))
      → ((rule ≡ 0 → ⊥) → P (record { answer = record { reply = OrderReply.TheVariants.Refused rule; made = 0; day = d }; book = book; trades = lent }))
      → P (fixed_call d a main book lent)
  unfolding fixed_call
  fixed_cases P = by_number P rule _ _

module _ (d : Day) (account number : ℕ) (main book : List Order) where
  abbrev cancel_rule : ℕ
  cancel_rule = first_of (fixed_cancel_rules d account number main book)

  pub cancel_cases :
      (P : FixedCancelOutcome → Type 0)
      → (cancel_rule ≡ 0
      → P
      (record {
        reply = CancelReply.TheVariants.Withdrawn (shares_of (is_own account number) book);
        book = lined (length book) (keep (λ o. not (is_own account number o)) book);
      }))
      → ((cancel_rule ≡ 0 → ⊥) → P (record { reply = CancelReply.TheVariants.Refused cancel_rule; book = book }))
      → P (fixed_cancel_call d account number main book)
  unfolding fixed_cancel_call
  cancel_cases P = by_number P cancel_rule _ _
