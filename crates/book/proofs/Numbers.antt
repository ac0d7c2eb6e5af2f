-- One number, one order: how often a number stands in a queue, so that the orders of the two queues all have different ones.
use Rattle.std.specs.Prelude.{if◌then◌else◌}
use Prim.Native.Nat.{ℕ, ◌+◌}
use mathlib.Core.Path.{◌≡◌, refl, sym, ◌∙◌}
use mathlib.Core.Bool.{Bool, true, false, and-false}
use mathlib.Core.List.{List, [], ◌∷◌}
use native.Mathlib.Omega.{arith}
use borrow.Author.Tests.{eq-eqb, ne_eqb}
use lib.Dec.{eqb}
use Rattle.model.specs.declared.Order.{Order}
use Rattle.model.specs.Lists.{total}
use Rattle.model.specs.Book.{is_live, stands_on, queue}
use Rattle.model.specs.Words.{Each}
use Rattle.book.specs.Standing.{Standing}
use Rattle.book.proofs.Lists.{both, each, every, total_same, total_kept}
use Rattle.book.proofs.Sorting.{Distinct}
use Rattle.book.proofs.Queues.{Stands, on_live, on_side, queue_stands, total_queue}
use Rattle.book.proofs.Best.{on_each}
use Rattle.book.proofs.Shares.{of_number, Only, each_only}

-- ---- how many orders of a list bear a number
abbrev pub tick : Bool → ℕ
tick b = if b then 1 else 0

unfoldable pub times : ℕ → List Order → ℕ
times n os = of_number n (λ o. 1) os

pub times_next : (n : ℕ) (o : Order) (os : List Order) → times n (o ∷ os) ≡ tick (eqb o.number n) + times n os
unfolding times of_number total
times_next n o os = refl

off : (side other : ℕ) (o : Order) → o.side ≡ side → (side ≡ other → ⊥) → stands_on other o ≡ false
unfolding stands_on
off side other o e d = rw (ne_eqb o.side other (λ f. d (sym e ∙ f))) (and-false (is_live o))

swap : (a b : Bool) → (if a then tick b else 0) ≡ (if b then tick a else 0)
swap true true = refl
swap true false = refl
swap false true = refl
swap false false = refl

-- in a queue as often as on its side of the book
times_queue : (n side : ℕ) (book : List Order) → times n (queue side book) ≡ of_number n (λ o. tick (stands_on side o)) book
unfolding times of_number
times_queue n side book =
    total_queue (λ o. tick (eqb o.number n)) side book
    ∙ total_kept (λ o. tick (eqb o.number n)) (stands_on side) book
    ∙ total_same (λ o. if stands_on side o then tick (eqb o.number n) else 0)
    (λ o. if eqb o.number n then tick (stands_on side o) else 0) book
    (every _ book (λ o. swap (stands_on side o) (eqb o.number n)))

module _ (book : List Order) (s : Standing book) where
  times_on : (side other : ℕ) → Each (λ o. times o.number (queue other book) ≡ tick (stands_on other o)) (queue side book)
  times_on side other =
      on_each (λ o. times o.number (queue other book) ≡ tick (stands_on other o)) side book
      (each (Only book) (λ o. stands_on side o ≡ true → times o.number (queue other book) ≡ tick (stands_on other o)) book
      (λ o h t. times_queue o.number other book ∙ h (on_live side o t) (λ x. tick (stands_on other x)))
      (each_only book s.apart))

  -- each number stands once in its queue, and not in the other
  times_own : (side : ℕ) → Each (λ o. times o.number (queue side book) ≡ 1) (queue side book)
  times_own side =
      both (Stands side) (λ o. times o.number (queue side book) ≡ tick (stands_on side o))
      (λ o. times o.number (queue side book) ≡ 1) (queue side book) (λ o h e. e ∙ rw h.1)
      (queue_stands side book s.fair) (times_on side side)

  pub times_other : (side other : ℕ) → (side ≡ other → ⊥) → Each (λ o. times o.number (queue other book) ≡ 0) (queue side book)
  times_other side other d =
      both (Stands side) (λ o. times o.number (queue other book) ≡ tick (stands_on other o))
      (λ o. times o.number (queue other book) ≡ 0) (queue side book)
      (λ o h e. e ∙ rw (not_on o h))
      (queue_stands side book s.fair) (times_on side other)
    where
      not_on : (o : Order) → Stands side o → stands_on other o ≡ false
      not_on o h = off side other o (on_side side o h.1) d

-- ---- by place
pub none_bears : (n : ℕ) (os : List Order) → times n os ≡ 0 → Each (λ o. o.number ≡ n → ⊥) os
none_bears n [] e = tt
none_bears n (o ∷ os) e = (differs, none_bears n os (omega (arith, times_next n o os)))
  where
    differs : o.number ≡ n → ⊥
    differs z =
        let b : tick (eqb o.number n) ≡ 1 = rw (eq-eqb o.number n z) in
        omega (arith, times_next n o os)

-- numbers that stand once are all different
own : (os : List Order) → Each (λ o. times o.number os ≡ 1) os → Distinct (λ o. o.number) os
own [] e = tt
own (o ∷ os) e =
    let first : times o.number os ≡ 0 =
    omega (arith, e.0, times_next o.number o os, one o.number) in
    let others = none_bears o.number os first in (
      others,
      own os
          (both (λ p. p.number ≡ o.number → ⊥) (λ p. times p.number (o ∷ os) ≡ 1) (λ p. times p.number os ≡ 1) os
          (λ p d t. omega (arith, times_next p.number o os, none o.number p.number (λ z. d (sym z))))
          others e.1),
    )
  where
    one : (n : ℕ) → tick (eqb n n) ≡ 1
    one n = rw (eq-eqb n n refl)

    none : (m n : ℕ) → (m ≡ n → ⊥) → tick (eqb m n) ≡ 0
    none m n d = rw (ne_eqb m n d)

pub queue_own : (book : List Order) → Standing book → (side : ℕ) → Distinct (λ o. o.number) (queue side book)
queue_own book s side = own (queue side book) (times_own book s side)
