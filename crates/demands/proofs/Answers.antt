-- From a sound day no event is refused with 15, and each keeps the day sound. Assumes nothing.
use Prim.Native.Nat.{ℕ}
use mathlib.Core.Path.{◌≡◌, refl, sym, ◌∙◌}
use mathlib.Core.Bool.{false}
use mathlib.Core.List.{List, ◌∷◌}
use lib.ListN.{length, get_or}
use lib.Dec.{eqb}
use borrow.Author.Tests.{eqb-false}
use Rattle.model.specs.declared.Trade.{Trade}
use Rattle.model.specs.declared.Event as Event
use Rattle.model.specs.declared.Order.{Order}
use Rattle.model.specs.declared.Asked.{Asked}
use Rattle.model.specs.declared.Day.{Day}
use Rattle.model.specs.Refusals.{Rule, ◌when◌, first_of, unsound}
use Rattle.model.specs.Calls.{order_rules, entered, cancel_rules}
use Rattle.model.specs.ClockCall.{clock_rules}
use Rattle.model.specs.Replies.{order_numbers, cancel_numbers, clock_numbers}
use Rattle.model.specs.Session.{Desk}
use Rattle.model.proofs.Rules.{skip}
use Rattle.model.specs.Words.{Each, Sound}
use Rattle.model.proofs.Bools.{not_both}
use Rattle.demands.specs.Running.{is_opening, answered_by, stepped_by}
use Rattle.demands.proofs.FirstRules.{not_given}
use Rattle.demands.proofs.Cases.{order_cases, cancel_cases, clock_cases}
use Rattle.demands.proofs.Pricings.{not_unsound}
use Rattle.demands.proofs.Keepings.{cancel_kept, order_kept, clock_kept}

pub event_sound :
    (e : Event.Event) → is_opening e ≡ false → (lent : List Trade) (s : Desk)
    → Sound s.day s.book
    → Sound (stepped_by e lent s).day (stepped_by e lent s).book
unfolding is_opening stepped_by
event_sound (Event.TheVariants.Open close mark) o lent s k = absurd (not_both refl o)
event_sound (Event.TheVariants.Clock t) o lent s k = clock_kept s.day t s.book lent k
event_sound (Event.TheVariants.Order a) o lent s k = order_kept s.day a s.book lent k
event_sound (Event.TheVariants.Cancel account number) o lent s k = cancel_kept s.day account number s.book k

-- ---- 15 is the first rule of each, and no other has its number

pub other : (n : ℕ) → eqb n 15 ≡ false → n ≡ 15 → ⊥
other n = eqb-false n 15

module _ (d : Day) (book : List Order) (k : Sound d book) where
  behind : (rs : List Rule) → Each (λ (r : Rule). r.number ≡ 15 → ⊥) rs → first_of (15 when (unsound d book) ∷ rs) ≡ 15 → ⊥
  behind rs h e = not_given 15 rs (eqb-false 15 0 refl) h (sym (skip 15 rs (not_unsound d book k)) ∙ e)

  order_not_15 : (a : Asked) (room : ℕ) → first_of (order_rules d a book room) ≡ 15 → ⊥
  unfolding order_rules ◌when◌
  order_not_15 a room =
      behind _
      (other 2 refl, (other 3 refl, (other 4 refl, (other 5 refl, (other 6 refl, (other 7 refl, (other 8 refl, (other 9 refl, (other 10 refl, (other 11 refl, (other 13 refl, tt)))))))))))

  cancel_not_15 : (account number : ℕ) → first_of (cancel_rules d account number book) ≡ 15 → ⊥
  unfolding cancel_rules ◌when◌
  cancel_not_15 account number = behind _ (other 4 refl, (other 12 refl, tt))

  clock_not_15 : (t room : ℕ) → first_of (clock_rules d t book room) ≡ 15 → ⊥
  unfolding clock_rules ◌when◌
  clock_not_15 t room = behind _ (other 1 refl, (other 13 refl, tt))

pub event_not_15 :
    (e : Event.Event) → is_opening e ≡ false → (lent : List Trade) (s : Desk)
    → Sound s.day s.book
    → get_or (answered_by e lent s) 0 0 ≡ 15
    → ⊥
unfolding is_opening answered_by order_numbers cancel_numbers clock_numbers entered
event_not_15 (Event.TheVariants.Open close mark) o lent s k = absurd (not_both refl o)
event_not_15 (Event.TheVariants.Clock t) o lent s k =
    clock_cases s.day t s.book lent (λ o. get_or (clock_numbers o.answer.reply) 0 0 ≡ 15 → ⊥)
    (λ _. eqb-false 0 15 refl)
    (λ _. clock_not_15 s.day s.book k t (length lent))
event_not_15 (Event.TheVariants.Order a) o lent s k =
    order_cases s.day a s.book lent (λ o. get_or (order_numbers o.answer.reply) 0 0 ≡ 15 → ⊥)
    (λ _. eqb-false 0 15 refl)
    (λ _. order_not_15 s.day s.book k a (length lent))
event_not_15 (Event.TheVariants.Cancel account number) o lent s k =
    cancel_cases s.day account number s.book (λ o. get_or (cancel_numbers o.answer.reply) 0 0 ≡ 15 → ⊥)
    (λ _. eqb-false 0 15 refl)
    (λ _. cancel_not_15 s.day s.book k account number)
