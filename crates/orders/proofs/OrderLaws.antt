-- An order: which of its rules is the first to hold, what an order that none refuses gives, and what the call comes to.
-- Assumes nothing.
use Prim.Native.Nat.{ℕ, ◌+◌, ◌<◌}
use mathlib.Core.Path.{◌≡◌, refl, sym, ap, ◌∙◌}
use mathlib.Core.Bool.{true, false}
use mathlib.Core.List.{List, [], ◌++◌}
use native.Mathlib.Omega.{arith}
use lib.ListN.{length}
use lib.Dec.{leb, ltb, eqb}
use borrow.Author.Tests.{eq-eqb, ne_eqb, eqb-false, leb-true, ltb-false, not-false}
use Rattle.model.specs.declared.Order.{Order}
use Rattle.model.specs.declared.Asked.{Asked}
use Rattle.model.specs.declared.Day.{Day}
use Rattle.model.specs.declared.Row.{Row}
use Rattle.model.specs.Clock.{row_at, takes_orders}
use Rattle.model.specs.declared.OrderAnswer.{OrderAnswer}
use Rattle.model.specs.declared.OrderReply.TheVariants.{Refused}
use Rattle.model.specs.Lists.{all}
use Rattle.model.specs.Book.{is_live, queue}
use Rattle.model.specs.Entry.{entry_trades}
use Rattle.model.specs.Refusals.{◌when◌, first_of, unsound}
use Rattle.model.specs.Calls.{Outcome, order_rules, entered, order_call}
use Rattle.model.proofs.Bools.{and_left}
use Rattle.model.proofs.Rules.{hit, skip, Numbered, NoneHolds, none_holds, given_by, passed_by}
use Rattle.book.proofs.Counting.{has_room, queues_orders}
use Rattle.soundness.proofs.Clauses.{says_price}
use Rattle.soundness.proofs.Sizes.{says_quantity, sized_most}
use Rattle.checks.specs.Checks.{asked_rules, book_rules, list_rules}
use Rattle.book.specs.Promises.{call_left}
use Rattle.soundness.specs.Ready.{Ready}
use Rattle.orders.specs.Taken.{Taken}
use Rattle.soundness.proofs.Readiness.{ready_if}
use Rattle.checks.proofs.AskedRules.{order_groups, asked_numbered, numbered_append}
use Rattle.checks.proofs.BookRules.{book_numbered}
use Rattle.model.specs.declared.Trade.{Trade}

-- ---- the clock

pub takes_of : (t : ℕ) {row : Row} → row ≡ row_at t → row.orders ≡ takes_orders t
unfolding takes_orders
takes_of t e = ap (λ (r : Row). r.orders) e

-- ---- which rule is the first

module _ (d : Day) (a : Asked) (book : List Order) (room : ℕ) where
  abbrev rules : ℕ
  rules = first_of (order_rules d a book room)

  pub order_unsound : unsound d book ≡ true → 15 ≡ rules
  order_unsound u = sym (ap first_of (order_groups d a book room) ∙ hit 15 _ u)

  module _ (u : unsound d book ≡ false) {r : ℕ} (e : r ≡ first_of (asked_rules d a ++ book_rules d a book)) where
    past : rules ≡ first_of ((asked_rules d a ++ book_rules d a book) ++ list_rules d a book room)
    past = ap first_of (order_groups d a book room) ∙ skip 15 _ u

    pub order_earlier : (r ≡ 0 → ⊥) → r ≡ rules
    order_earlier n = given_by (asked_rules d a ++ book_rules d a book) (list_rules d a book room) e n ∙ sym past

    module _ (z : r ≡ 0) where
      by_list : {n : ℕ} → n ≡ first_of (list_rules d a book room) → n ≡ rules
      by_list f =
          passed_by (asked_rules d a ++ book_rules d a book) (list_rules d a book room)
          (numbered_append (asked_rules d a) (book_rules d a book) (asked_numbered d a) (book_numbered d a book)) e z f
          ∙ sym past

      pub order_list : ltb room (length (entry_trades d a book)) ≡ true → 13 ≡ rules
      unfolding list_rules
      order_list h = by_list (sym (hit 13 _ h))

      pub order_none : ltb room (length (entry_trades d a book)) ≡ false → 0 ≡ rules
      unfolding list_rules first_of
      order_none h = by_list (sym (skip 13 [] h))

-- ---- an order that no rule refuses

module _ (d : Day) (a : Asked) (book : List Order) (room : ℕ) where
  pub order_numbered : Numbered (order_rules d a book room)
  unfolding order_rules ◌when◌
  order_numbered = (
    eqb-false 15 0 refl,
    (
      eqb-false 2 0 refl,
      (
        eqb-false 3 0 refl,
        (
          eqb-false 4 0 refl,
          (
            eqb-false 5 0 refl,
            (
              eqb-false 6 0 refl,
              (
                eqb-false 7 0 refl,
                (
                  eqb-false 8 0 refl,
                  (
                    eqb-false 9 0 refl,
                    (
                      eqb-false 10 0 refl,
                      (
                        eqb-false 11 0 refl,
                        (eqb-false 13 0 refl, tt),
                      ),
                    ),
                  ),
                ),
              ),
            ),
          ),
        ),
      ),
    ),
  )

  pub taken : rules d a book room ≡ 0 → Taken d a book room
  unfolding order_rules ◌when◌
  taken z =
      let n : NoneHolds (order_rules d a book room) = none_holds (order_rules d a book room) order_numbered z in
      record {
        ready = ready_if d book n.0;
        side = leb-true a.side 1 (and_left (leb a.side 1) (leb a.kind 4) (not-false _ n.1.0));
        quantity =
            sized_most a.side a.quantity a.balance
            ((says_quantity a.side a.quantity a.balance).0 (not-false _ n.1.1.1.1.1.0));
        price = ((says_price a.price).0 (not-false _ n.1.1.1.1.1.1.0)).high;
        number = below (ready_if d book n.0) n.1.1.1.1.1.1.1.1.1.1.0;
        room = has_place (ready_if d book n.0) n.1.1.1.1.1.1.1.1.1.0;
        fits = ltb-false room (length (entry_trades d a book)) n.1.1.1.1.1.1.1.1.1.1.1.0;
      }
    where
      below : Ready d book → eqb d.issued 999_999 ≡ false → d.issued < 999_999
      below r e = let k : d.issued ≡ 999_999 → ⊥ = eqb-false d.issued 999_999 e in omega (arith, r.sound.issued)

      has_place : Ready d book → all is_live book ≡ false → length (queue 0 book) + length (queue 1 book) < length book
      has_place r e = omega (arith, has_room book e, queues_orders book r.ranked.stands.fair)

-- ---- the call

module _ (d : Day) (a : Asked) (rows : List Order) (lent : List Trade) {n : ℕ} (r : n ≡ first_of (order_rules d a rows (length lent))) where
  listed : first_of (order_rules d a rows (length lent)) ≡ n
  listed = ap (λ (m : ℕ). first_of (order_rules d a rows m)) (refl) ∙ sym r

  pub order_refused_lem :
      (n ≡ 0 → ⊥)
      → call_left (record { reply = Refused n; made = 0; day = d }) rows lent ≡ order_call d a rows lent
  unfolding order_call
  order_refused_lem z = rw (listed, ne_eqb n 0 z)

  module _ (z : n ≡ 0) where
    pub order_taken : Taken d a rows (length lent)
    order_taken = taken d a rows (length lent) (sym r ∙ z)

    pub order_accepted :
        {o : Outcome OrderAnswer}
        → o ≡ entered d a rows lent
        → o ≡ order_call d a rows lent
    unfolding order_call
    order_accepted e = rw (listed, eq-eqb n 0 z) e
