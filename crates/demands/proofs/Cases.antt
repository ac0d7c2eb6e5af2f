-- Each event by whether it is refused: what holds of both outcomes holds of the call. Assumes nothing.
use Prim.Native.Nat.{ℕ}
use mathlib.Core.Path.{◌≡◌, refl}
use mathlib.Core.Bool.{Bool, true, false, cond, not}
use mathlib.Core.List.{List, []}
use lib.ListN.{length}
use lib.Dec.{eqb}
use borrow.Author.Tests.{eqb-true, eqb-false}
use Rattle.model.specs.declared.Order.{Order}
use Rattle.model.specs.declared.Asked.{Asked}
use Rattle.model.specs.declared.Trade.{Trade}
use Rattle.model.specs.declared.Day.{Day}
use Rattle.model.specs.declared.OrderReply as OrderReply
use Rattle.model.specs.declared.CancelReply as CancelReply
use Rattle.model.specs.declared.ClockReply as ClockReply
use Rattle.model.specs.declared.OrderAnswer.{OrderAnswer}
use Rattle.model.specs.declared.ClockAnswer.{ClockAnswer}
use Rattle.model.specs.Lists.{keep, total}
use Rattle.model.specs.Book.{arranged}
use Rattle.model.specs.Figures.{at}
use Rattle.model.specs.Halts.{phase_now}
use Rattle.model.specs.Screen.{update}
use Rattle.model.specs.Refusals.{first_of}
use Rattle.model.specs.Calls.{Outcome, written, CancelOutcome, is_own, order_rules, entered, order_call, cancel_rules, cancel_call}
use Rattle.model.specs.ClockCall.{Held, moved, clock_rules, clock_call}

-- a number is 0 or not
pub by_number : {A : Type 0} (P : A → Type 0) (n : ℕ) (x y : A) → (n ≡ 0 → P x) → ((n ≡ 0 → ⊥) → P y) → P (cond (eqb n 0) x y)
by_number P n x y f g = go (eqb n 0) refl
  where
    go : (b : Bool) → eqb n 0 ≡ b → P (cond b x y)
    go true e = f (eqb-true n 0 e)
    go false e = g (eqb-false n 0 e)

module _ (d : Day) (a : Asked) (book : List Order) (lent : List Trade) where
  abbrev order_rule : ℕ
  order_rule = first_of (order_rules d a book (length lent))

  pub order_cases :
      (P : Outcome OrderAnswer → Type 0)
      → (order_rule ≡ 0 → P (entered d a book lent))
      → ((order_rule ≡ 0 → ⊥) → P (record { answer = record { reply = OrderReply.TheVariants.Refused order_rule; made = 0; day = d }; book = book; trades = lent }))
      → P (order_call d a book lent)
  unfolding order_call
  order_cases P = by_number P order_rule _ _

module _ (d : Day) (account number : ℕ) (book : List Order) where
  abbrev cancel_rule : ℕ
  cancel_rule = first_of (cancel_rules d account number book)

  abbrev cancel_after : List Order
  cancel_after = arranged (length book) (keep (λ o. not (is_own account number o)) book)

  pub cancel_cases :
      (P : CancelOutcome → Type 0)
      → (cancel_rule ≡ 0
      → P
      (record {
        answer =
            record {
              reply = CancelReply.TheVariants.Withdrawn (total (λ o. o.left) (keep (is_own account number) book));
              day = update [] cancel_after d;
            };
        book = cancel_after;
      }))
      → ((cancel_rule ≡ 0 → ⊥) → P (record { answer = record { reply = CancelReply.TheVariants.Refused cancel_rule; day = d }; book = book }))
      → P (cancel_call d account number book)
  unfolding cancel_call
  cancel_cases P = by_number P cancel_rule _ _

module _ (d : Day) (t : ℕ) (book : List Order) (lent : List Trade) where
  abbrev clock_rule : ℕ
  clock_rule = first_of (clock_rules d t book (length lent))

  abbrev held : Held
  held = moved d t book

  pub clock_cases :
      (P : Outcome ClockAnswer → Type 0)
      → (clock_rule ≡ 0
      → P
      (record {
        answer =
            record {
              reply = ClockReply.TheVariants.Moved (phase_now (at t held.day)) (length held.trades);
              made = length held.trades;
              day = update held.trades held.book (at t held.day);
            };
        book = held.book;
        trades = written held.trades lent;
      }))
      → ((clock_rule ≡ 0 → ⊥) → P (record { answer = record { reply = ClockReply.TheVariants.Refused clock_rule; made = 0; day = d }; book = book; trades = lent }))
      → P (clock_call d t book lent)
  unfolding clock_call
  clock_cases P = by_number P clock_rule _ _

-- ---- the two cases of a move's reply, told apart by numbers

abbrev pub is_moved : ClockReply.ClockReply → ℕ
is_moved (ClockReply.TheVariants.Refused n) = 0
is_moved (ClockReply.TheVariants.Moved phase made) = 1

abbrev pub phase_of : ClockReply.ClockReply → ℕ
phase_of (ClockReply.TheVariants.Refused n) = 0
phase_of (ClockReply.TheVariants.Moved phase made) = phase

abbrev pub made_of : ClockReply.ClockReply → ℕ
made_of (ClockReply.TheVariants.Refused n) = 0
made_of (ClockReply.TheVariants.Moved phase made) = made
