-- In a halt: which orders are taken, and that none trades on entry. Assumes nothing.
use Prim.Native.Nat.{ℕ}
use mathlib.Core.Path.{◌≡◌, refl, sym, ap}
use mathlib.Core.Bool.{Bool, true, false, not, ◌&&◌, ◌||◌, and-false}
use mathlib.Core.List.{List}
use native.Mathlib.Omega.{arith}
use lib.ListN.{length}
use lib.Dec.{eqb}
use borrow.Author.Tests.{eqb-true, ne_eqb}
use Rattle.model.specs.declared.Order.{Order}
use Rattle.model.specs.declared.Asked.{Asked}
use Rattle.model.specs.declared.Trade.{Trade}
use Rattle.model.specs.declared.Day.{Day}
use Rattle.model.specs.declared.OrderReply as OrderReply
use Rattle.model.specs.Clock.{continuous}
use Rattle.model.specs.Halts.{phase_now}
use Rattle.model.specs.Refusals.{◌when◌, first_of}
use Rattle.model.specs.Calls.{order_rules, entered, order_call}
use Rattle.model.proofs.Bools.{not_both}
use Rattle.matching.proofs.Entries.{other_phase}
use Rattle.demands.specs.Halting.{Collects}
use Rattle.demands.proofs.FirstRules.{gives_none}
use Rattle.demands.proofs.Refusals.{order_numbers_lem, order_apart}
use Rattle.demands.proofs.Cases.{order_cases}
use Rattle.demands.proofs.Hours.{now_halted, continuous_takes}
use Rattle.demands.proofs.LongLists.{never, not_this}
use Rattle.model.specs.Matching.{no_trade}

module _ (d : Day) (now : phase_now d ≡ 7) where
  not_continuous : eqb (phase_now d) continuous ≡ false
  unfolding continuous
  not_continuous = ne_eqb (phase_now d) 4 (λ e. omega (arith, e, now))

  module _ (a : Asked) (book : List Order) (lent : List Trade) where
    no_trade_lem : (order_call d a book lent).answer.made ≡ 0
    unfolding entered
    no_trade_lem =
        order_cases d a book lent (λ o. o.answer.made ≡ 0)
        (λ _. ap length (other_phase d a book 7 (sym now) (λ e. omega (arith, e))))
        (λ _. refl)

    -- rule 5 refuses any other kind
    limit_alone : first_of (order_rules d a book (length lent)) ≡ 0 → a.kind ≡ 0
    unfolding order_rules ◌when◌
    limit_alone z =
        go (eqb a.kind 0) refl (gives_none (order_rules d a book (length lent)) (order_numbers_lem d a book lent) z).1.1.1.1.0
      where
        go : (b : Bool) → eqb a.kind 0 ≡ b → (not b && (not (eqb (phase_now d) continuous) || eqb d.limited 0)) ≡ false → a.kind ≡ 0
        go true e h = eqb-true a.kind 0 e
        go false e h = absurd (not_both (rw not_continuous) h)

    -- and 9 is for continuous trading
    no_range : first_of (order_rules d a book (length lent)) ≡ 9 → ⊥
    unfolding order_rules ◌when◌
    no_range =
        never 9 (order_rules d a book (length lent)) (λ z. omega (arith, z))
        (not_this 9 15 refl, (not_this 9 2 refl, (not_this 9 3 refl, (not_this 9 4 refl, (not_this 9 5 refl, (not_this 9 6 refl, (not_this 9 7 refl, (not_this 9 8 refl, (λ _. rw (not_continuous, and-false (eqb a.kind 0)), (not_this 9 10 refl, (not_this 9 11 refl, (not_this 9 13 refl, tt))))))))))))

  pub collects : Collects d
  collects =
      record {
        takes = continuous_takes d.time (now_halted d now);
        no_trade = no_trade_lem;
        limit_alone = λ a book lent e.
            order_cases d a book lent (λ o. o.answer.reply ≡ OrderReply.TheVariants.Accepted e → a.kind ≡ 0)
            (λ z _. limit_alone a book lent z)
            (λ _ r. let z : ◌≡◌ {A = ℕ} 0 1 = cc in absurd (omega arith));
        no_range = λ a book lent.
            order_cases d a book lent (λ o. o.answer.reply ≡ OrderReply.TheVariants.Refused 9 → ⊥)
            (λ _. order_apart d a book lent 9)
            (λ _ r. no_range a book lent cc);
      }
