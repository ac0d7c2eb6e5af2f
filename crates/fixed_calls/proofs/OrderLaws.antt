-- A fixed-price order: which of its rules is the first to hold, and what the call then comes to. Assumes nothing.
use Prim.Native.Nat.{ℕ, ◌≤◌, ◌<◌}
use mathlib.Core.Path.{◌≡◌, refl, sym, ap, ◌∙◌}
use mathlib.Core.Bool.{Bool, true, false, ◌||◌}
use mathlib.Core.List.{List, ◌∷◌, ◌++◌}
use native.Mathlib.Omega.{arith}
use lib.ListN.{length}
use lib.Dec.{ltb, eqb}
use borrow.Author.Tests.{lt-ltb, le-ltb, eq-eqb, ne_eqb}
use Rattle.model.specs.declared.Order.{Order}
use Rattle.model.specs.declared.AskedFixed.{AskedFixed}
use Rattle.model.specs.declared.Day.{Day}
use Rattle.model.specs.declared.OrderAnswer.{OrderAnswer}
use Rattle.model.specs.Lists.{keep}
use Rattle.model.specs.Book.{is_live}
use Rattle.model.specs.Refusals.{◌when◌, first_of, unsound, unsound_fixed}
use Rattle.model.specs.Calls.{Outcome}
use Rattle.model.specs.FixedCalls.{fixed_trades, fixed_rules, fixed_call}
use Rattle.model.proofs.Rules.{given_by, passed_by, skip}
use Rattle.book.specs.Promises.{call_left, order_refused}
use Rattle.fixed_book.proofs.Counting.{all_live}
use Rattle.fixed_calls.specs.Rules.{asked_rules, book_rules, Welcome, welcomed}
use Rattle.fixed_calls.proofs.AskedRules.{asked_numbered}
use Rattle.model.specs.declared.Trade.{Trade}

-- the rules of the definition, in its order
pub fixed_groups :
    (d : Day) (a : AskedFixed) (main book : List Order) (room : ℕ)
    → fixed_rules d a main book room ≡ 15 when (unsound d main || unsound_fixed d book) ∷ (asked_rules d a ++ book_rules d a book room)
unfolding fixed_rules asked_rules book_rules
fixed_groups d a main book room = refl

module _ (d : Day) (a : AskedFixed) (main book : List Order) (room : ℕ) where
  abbrev rules : ℕ
  rules = first_of (fixed_rules d a main book room)

  pub main_unsound : unsound d main ≡ true → 15 ≡ rules
  unfolding fixed_rules first_of ◌when◌
  main_unsound u = rw u

  module _ (u : unsound d main ≡ false) where
    pub fixed_unsound : unsound_fixed d book ≡ true → 15 ≡ rules
    unfolding fixed_rules first_of ◌when◌
    fixed_unsound v = rw (u, v)

    module _ (v : unsound_fixed d book ≡ false) where
      -- past 15
      later : rules ≡ first_of (asked_rules d a ++ book_rules d a book room)
      later =
          ap first_of (fixed_groups d a main book room)
          ∙ skip 15 (asked_rules d a ++ book_rules d a book room) (rw (u, v))

      pub asked_refused : {r : ℕ} → r ≡ first_of (asked_rules d a) → (r ≡ 0 → ⊥) → r ≡ rules
      asked_refused e n = given_by (asked_rules d a) (book_rules d a book room) e n ∙ sym later

      module _ (z : first_of (asked_rules d a) ≡ 0) where
        by_book : {r : ℕ} → r ≡ first_of (book_rules d a book room) → r ≡ rules
        by_book e = passed_by (asked_rules d a) (book_rules d a book room) (asked_numbered d a) refl z e ∙ sym later

        module _ {place : ℕ} (p : place ≡ length (keep is_live book)) where
          pub no_place : length book ≤ place → 10 ≡ rules
          unfolding book_rules first_of ◌when◌
          no_place h = by_book (rw (all_live book, le-ltb (length (keep is_live book)) (length book) (omega arith)))

          module _ (h : place < length book) where
            pub no_number : d.fixed.issued ≡ 999_999 → 11 ≡ rules
            unfolding book_rules first_of ◌when◌
            no_number n = by_book (rw (all_live book, lt-ltb (length (keep is_live book)) (length book) (omega arith), eq-eqb d.fixed.issued 999_999 n))

            module _ (n : d.fixed.issued ≡ 999_999 → ⊥) where
              pub too_many : ltb room (length (fixed_trades d a book)) ≡ true → 13 ≡ rules
              unfolding book_rules first_of ◌when◌
              too_many t =
                  by_book
                  (rw (all_live book, lt-ltb (length (keep is_live book)) (length book) (omega arith), ne_eqb d.fixed.issued 999_999 n, t))

              pub none_holds : ltb room (length (fixed_trades d a book)) ≡ false → 0 ≡ rules
              unfolding book_rules first_of ◌when◌
              none_holds t =
                  by_book
                  (rw (all_live book, lt-ltb (length (keep is_live book)) (length book) (omega arith), ne_eqb d.fixed.issued 999_999 n, t))

-- ---- what the call comes to

module _ (d : Day) (a : AskedFixed) (main : List Order) (rows : List Order) (trades : List Trade) where
  abbrev book : List Order
  book = rows

  abbrev told : ℕ
  told = first_of (fixed_rules d a main book (length trades))

  pub order_refused_lem :
      {n : ℕ} {r : OrderAnswer}
      → n ≡ told
      → (n ≡ 0 → ⊥)
      → r ≡ order_refused d n
      → call_left r rows trades ≡ fixed_call d a main book trades
  unfolding fixed_call
  order_refused_lem {n} {r} e z f = rw (f, ne_eqb told 0 (λ y. z (e ∙ y)), e)

  -- no rule but 13 holds
  pub order_welcomed :
      {place : ℕ} {left : Outcome OrderAnswer}
      → unsound d main ≡ false
      → Welcome d a book place
      → left ≡ welcomed d a book trades
      → left ≡ fixed_call d a main book trades
  unfolding welcomed fixed_call
  order_welcomed {place} {left} u w e = go (ltb (length trades) (length (fixed_trades d a book))) refl
    where
      some : d.fixed.issued ≡ 999_999 → ⊥
      some z = omega (arith, z, w.numbers)

      go : (b : Bool) → ltb (length trades) (length (fixed_trades d a book)) ≡ b → left ≡ fixed_call d a main book trades
      go true t =
          let n : 13 ≡ told = too_many d a main book (length trades) u w.ready.sound w.asked w.behind w.free some t in
          let z : eqb told 0 ≡ false = ne_eqb told 0 (λ y. omega (arith, n, y)) in
          rw t at e ∙ rw (z, ← n)
      go false t =
          let n : 0 ≡ told = none_holds d a main book (length trades) u w.ready.sound w.asked w.behind w.free some t in
          let z : eqb told 0 ≡ true = eq-eqb told 0 (sym n) in
          rw t at e ∙ rw z
