-- A trade list as long as the book: no event has more trades than the book has places, so it is never refused for want of room.
-- Assumes nothing.
use Prim.Native.Nat.{ℕ, ◌≤◌}
use mathlib.Core.Path.{◌≡◌, refl, sym, ◌∙◌}
use mathlib.Core.Bool.{Bool, true, false, cond}
use mathlib.Core.List.{List, [], ◌∷◌}
use native.Mathlib.Omega.{arith}
use lib.ListN.{length}
use lib.Dec.{eqb}
use borrow.Author.Tests.{eqb-false, le-ltb}
use Rattle.model.specs.declared.Order.{Order}
use Rattle.model.specs.declared.Asked.{Asked}
use Rattle.model.specs.declared.Trade.{Trade}
use Rattle.model.specs.declared.Day.{Day}
use Rattle.model.specs.declared.OrderReply as OrderReply
use Rattle.model.specs.declared.ClockReply as ClockReply
use Rattle.model.specs.Entry.{entry_trades}
use Rattle.model.specs.Refusals.{Rule, ◌when◌, first_of, unsound}
use Rattle.model.specs.Calls.{order_rules, order_call}
use Rattle.model.specs.ClockCall.{moved, clock_rules, clock_call}
use Rattle.model.proofs.Bools.{not_both}
use Rattle.model.proofs.Rules.{hit}
use Rattle.model.specs.Words.{Each}
use Rattle.matching.proofs.EntryLaws.{entry_few}
use Rattle.pairing.proofs.Moves.{moved_few}
use Rattle.demands.specs.Refusing.{NeverLacking}
use Rattle.demands.proofs.Refusals.{order_apart, clock_apart}
use Rattle.demands.proofs.Cases.{order_cases, clock_cases}
use Rattle.demands.proofs.Pricings.{sound_if, sound_stands}

-- a number that no rule gives
pub never : (n : ℕ) (rs : List Rule) → (n ≡ 0 → ⊥) → Each (λ (r : Rule). r.number ≡ n → r.holds ≡ false) rs → first_of rs ≡ n → ⊥
unfolding first_of
never n [] z e f = z (sym f)
never n (r ∷ rs) z e f = go r.holds refl f (never n rs z e.1)
  where
    go : (b : Bool) → r.holds ≡ b → cond b r.number (first_of rs) ≡ n → (first_of rs ≡ n → ⊥) → ⊥
    go true h g rest = not_both h (e.0 g)
    go false h g rest = rest g

-- a rule with another number
pub not_this : (m n : ℕ) {b : Bool} → eqb n m ≡ false → n ≡ m → b ≡ false
not_this m n k e = absurd (eqb-false n m k e)

not_13 : (n : ℕ) {b : Bool} → eqb n 13 ≡ false → n ≡ 13 → b ≡ false
not_13 = not_this 13

-- ---- an order

module _ (d : Day) (a : Asked) (book : List Order) (lent : List Trade) (h : length book ≤ length lent) where
  order_fits : length (entry_trades d a book) ≤ length lent
  order_fits = omega (arith, h, entry_few d a book)

  order_rule : first_of (order_rules d a book (length lent)) ≡ 13 → ⊥
  unfolding order_rules ◌when◌
  order_rule =
      never 13 (order_rules d a book (length lent)) (λ z. omega (arith, z))
      (not_13 15 refl, (not_13 2 refl, (not_13 3 refl, (not_13 4 refl, (not_13 5 refl, (not_13 6 refl, (not_13 7 refl, (not_13 8 refl, (not_13 9 refl, (not_13 10 refl, (not_13 11 refl, (λ _. le-ltb (length lent) (length (entry_trades d a book)) order_fits, tt))))))))))))

  order_has_room : (order_call d a book lent).answer.reply ≡ OrderReply.TheVariants.Refused 13 → ⊥
  order_has_room =
      order_cases d a book lent (λ o. o.answer.reply ≡ OrderReply.TheVariants.Refused 13 → ⊥)
      (λ _. order_apart d a book lent 13)
      (λ _ r. order_rule cc)

-- ---- a move of the clock

module _ (d : Day) (t : ℕ) (book : List Order) (lent : List Trade) (h : length book ≤ length lent) where
  clock_rule : first_of (clock_rules d t book (length lent)) ≡ 13 → ⊥
  unfolding clock_rules ◌when◌
  clock_rule e = go (unsound d book) refl
    where
      go : (u : Bool) → unsound d book ≡ u → ⊥
      go true u = omega (arith, sym (hit 15 _ u) ∙ e)
      go false u =
          let s = sound_stands d book (sound_if d book u) in
          never 13 (clock_rules d t book (length lent)) (λ z. omega (arith, z))
          (not_13 15 refl, (not_13 1 refl, (λ _. le-ltb (length lent) (length (moved d t book).trades) (omega (arith, h, moved_few book s d t)), tt))) e

  clock_has_room : (clock_call d t book lent).answer.reply ≡ ClockReply.TheVariants.Refused 13 → ⊥
  clock_has_room =
      clock_cases d t book lent (λ o. o.answer.reply ≡ ClockReply.TheVariants.Refused 13 → ⊥)
      (λ _. clock_apart d t book lent 13)
      (λ _ r. clock_rule cc)

pub never_lacking : NeverLacking
never_lacking = record { order = order_has_room; clock = clock_has_room }
