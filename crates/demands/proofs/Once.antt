-- A number that at most one order of a list bears, and what that one has. Assumes nothing.
use Prim.Native.Nat.{ℕ, ◌≤◌}
use mathlib.Core.Path.{◌≡◌, sym, ap, ◌∙◌}
use mathlib.Core.Bool.{Bool}
use mathlib.Core.List.{List, ◌∷◌}
use native.Mathlib.Omega.{arith}
use lib.Dec.{eqb}
use borrow.Author.Tests.{eq-eqb}
use Rattle.model.specs.declared.Order.{Order}
use Rattle.model.specs.Lists.{keep}
use Rattle.model.specs.Book.{stands_on, queue}
use Rattle.model.specs.Words.{Each, Apart}
use Rattle.book.proofs.Lists.{each, each_keep, total_keep}
use Rattle.book.proofs.Queues.{each_queue, total_queue}
use Rattle.book.proofs.Shares.{of_number, Only, each_only}
use Rattle.book.proofs.Numbers.{tick, times, times_next, none_bears}

pub record Once (n had : ℕ) (os : List Order) : Type 0 where
  pub few : times n os ≤ 1
  pub has : Each (λ (o : Order). o.number ≡ n → o.left ≡ had) os

module _ {n had : ℕ} where
  -- ---- one order at a time

  module _ {o : Order} {os : List Order} (k : Once n had (o ∷ os)) where
    pub once_behind : Once n had os
    once_behind = record { few = omega (arith, k.few, times_next n o os); has = k.has.1 }

    pub once_first : o.number ≡ n → Each (λ (p : Order). p.number ≡ n → ⊥) os
    once_first e =
        let b : tick (eqb o.number n) ≡ 1 = rw (eq-eqb o.number n e) in
        none_bears n os (omega (arith, k.few, times_next n o os))

  -- ---- those that a test keeps, and a queue

  pub once_keep : (p : Order → Bool) (os : List Order) → Once n had os → Once n had (keep p os)
  unfolding times of_number
  once_keep p os k =
      record {
        few = omega (arith, k.few, total_keep (λ (o : Order). tick (eqb o.number n)) p os);
        has = each_keep (λ (o : Order). o.number ≡ n → o.left ≡ had) p os k.has;
      }

  pub once_queue : (side : ℕ) (book : List Order) → Once n had book → Once n had (queue side book)
  unfolding times of_number
  once_queue side book k =
      let h = once_keep (stands_on side) book k in
      record {
        few = omega (arith, h.few, total_queue (λ (o : Order). tick (eqb o.number n)) side book);
        has = each_queue (λ (o : Order). o.number ≡ n → o.left ≡ had) side book h.has;
      }

-- ---- every order of a book

pub book_once : (book : List Order) → Apart book → Each (λ (o : Order). (o.number ≡ 0 → ⊥) → Once o.number o.left book) book
unfolding times
book_once book a =
    each (Only book) (λ (o : Order). (o.number ≡ 0 → ⊥) → Once o.number o.left book) book
    (λ o h live.
    record {
      few = omega (arith, h live (λ _. 1));
      has =
          each (Only book) (λ (x : Order). x.number ≡ o.number → x.left ≡ o.left) book
          (λ x f e. sym (f (λ z. live (sym e ∙ z)) (λ y. y.left)) ∙ ap (λ (m : ℕ). of_number m (λ y. y.left) book) e ∙ h live (λ y. y.left))
          (each_only book a);
    })
    (each_only book a)
