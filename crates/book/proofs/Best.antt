-- Who is in a queue and in which order, and what the best price says of the others.
use Prim.Native.Nat.{ℕ, ◌≤◌, ◌<◌}
use mathlib.Core.Path.{◌≡◌, refl, sym, ◌∙◌}
use mathlib.Core.Bool.{Bool, true, false, cond}
use mathlib.Core.List.{List, [], ◌∷◌, nil≢cons}
use native.Mathlib.Omega.{arith}
use lib.Dec.{eqb}
use borrow.Author.Tests.{eqb-true, eqb-false, lt-ltb}
use Rattle.model.specs.declared.Order.{Order}
use Rattle.model.specs.Lists.{keep}
use Rattle.model.specs.Book.{stands_on, ahead, queue, head_price, best}
use Rattle.model.specs.Words.{Each}
use Rattle.book.specs.Standing.{Fair, Standing}
use Rattle.book.specs.Priority.{rank, key}
use Rattle.book.proofs.Lists.{both, each, every, each_keep, kept}
use Rattle.book.proofs.Sorting.{by_key, Rising, rising_over, each_sorted}
use Rattle.book.proofs.Queues.{Stands, key_on, ahead_key, queue_is, each_queue, queue_stands, queue_rising, on_live}

-- ---- who is in a queue: the orders of the book that stand on its side, and no others

pub each_kept :
    {A : Type 0} (P : A → Type 0) (t : A → Bool) (xs : List A)
    → Each P (keep t xs)
    → Each (λ x. t x ≡ true → P x) xs
unfolding keep
each_kept P t [] e = tt
each_kept P t (x ∷ xs) e = go (t x) refl e (each_kept P t xs)
  where
    go :
        (b : Bool)
        → t x ≡ b
        → Each P (cond b (x ∷ keep t xs) (keep t xs))
        → (Each P (keep t xs) → Each (λ y. t y ≡ true → P y) xs)
        → (t x ≡ true → P x) × Each (λ y. t y ≡ true → P y) xs
    go true f h rest = (λ g. h.0, rest h.1)
    go false f h rest = (λ g. absurd (let z : ◌≡◌ {A = ℕ} 0 1 = cc in omega arith), rest h)

-- what each order of the queue has, each order of the book on that side has
pub each_on :
    (P : Order → Type 0) (side : ℕ) (book : List Order)
    → Each P (queue side book)
    → Each (λ o. stands_on side o ≡ true → P o) book
each_on P side book e =
    each_kept P (stands_on side) book
    (each_sorted (ahead side) P (keep (stands_on side) book) (rw (sym (queue_is side book)) e))

-- and back
pub on_each :
    (P : Order → Type 0) (side : ℕ) (book : List Order)
    → Each (λ o. stands_on side o ≡ true → P o) book
    → Each P (queue side book)
on_each P side book e =
    each_queue P side book
    (both (λ o. stands_on side o ≡ true → P o) (λ o. stands_on side o ≡ true) P (keep (stands_on side) book) (λ o f t. f t)
    (each_keep (λ o. stands_on side o ≡ true → P o) (stands_on side) book e)
    (kept (stands_on side) book))

-- ---- in which order: each is ahead of all that come later

abbrev pub InTurn : ℕ → List Order → Type 0
InTurn side [] = Unit {0}
InTurn side (o ∷ os) = Each (λ p. ahead side o p ≡ true) os × InTurn side os

in_turn_lem : (side a : ℕ) (q : List Order) → Each (Stands side) q → Rising key a q → InTurn side q
in_turn_lem side a [] f r = tt
in_turn_lem side a (o ∷ os) f r = (
  both (Stands side) (λ p. key o < key p) (λ p. ahead side o p ≡ true) os
      (λ p h l. ahead_key side o p f.0 h ∙ unfold by_key in lt-ltb (key o) (key p) l)
      f.1
      (rising_over key (key o) (key o) os (omega arith) r.1),
  in_turn_lem side (key o) os f.1 r.1,
)

pub queue_in_turn : (side : ℕ) (book : List Order) → Standing book → InTurn side (queue side book)
queue_in_turn side book s =
    in_turn_lem side 0 (queue side book) (queue_stands side book s.fair) (queue_rising side book s)

-- ---- the best price

priced_on : (side : ℕ) (o : Order) → Stands side o → o.price ≡ 0 → ⊥
priced_on side o h z = omega (arith, h.0.priced (on_live side o h.1))

ranks_follow :
    (side : ℕ) (o p : Order)
    → Stands side o
    → Stands side p
    → key o < key p
    → rank side o.price ≤ rank side p.price
ranks_follow side o p h f l = omega (arith, key_on side o h.1, key_on side p f.1, h.0.number, f.0.number)

module _ (side : ℕ) (book : List Order) where
  -- 0 is no price, so a best price of 0 says that nobody stands there
  pub empty_best : Each Fair book → best side book ≡ 0 → queue side book ≡ []
  unfolding best head_price
  empty_best f e = go (queue side book) (queue_stands side book f) e
    where
      go : (q : List Order) → Each (Stands side) q → head_price q ≡ 0 → q ≡ []
      go [] h z = refl
      go (o ∷ os) h z = absurd (priced_on side o h.0 z)

  -- what each price of the side has, the best one has
  pub best_has :
      (P : ℕ → Type 0)
      → Each (λ o. P o.price) (queue side book)
      → (best side book ≡ 0 → ⊥)
      → P (best side book)
  unfolding best head_price
  best_has P e n = go (queue side book) e n
    where
      go : (q : List Order) → Each (λ o. P o.price) q → (head_price q ≡ 0 → ⊥) → P (head_price q)
      go [] e n = absurd (n refl)
      go (o ∷ os) e n = e.0

  pub best_price : Each Fair book → best side book ≤ 999_999
  best_price f = go (eqb (best side book) 0) refl
    where
      go : (b : Bool) → eqb (best side book) 0 ≡ b → best side book ≤ 999_999
      go true e = omega (arith, eqb-true (best side book) 0 e)
      go false e =
          best_has (λ p. p ≤ 999_999)
          (each (Stands side) (λ o. o.price ≤ 999_999) (queue side book) (λ o h. h.0.price)
          (queue_stands side book f))
          (eqb-false (best side book) 0 e)

  -- no price of the side is better
  best_ranks : Standing book → Each (λ o. rank side (best side book) ≤ rank side o.price) (queue side book)
  unfolding best head_price
  best_ranks s = go (queue side book) (queue_stands side book s.fair) (queue_rising side book s)
    where
      go :
          (q : List Order)
          → Each (Stands side) q
          → Rising key 0 q
          → Each (λ o. rank side (head_price q) ≤ rank side o.price) q
      go [] h r = tt
      go (o ∷ os) h r = (
        omega arith,
        both (Stands side) (λ p. key o < key p) (λ p. rank side o.price ≤ rank side p.price) os
            (λ p f l. ranks_follow side o p h.0 f l)
            h.1
            (rising_over key (key o) (key o) os (omega arith) r.1),
      )

  pub best_first :
      Standing book
      → Each (λ o. stands_on side o ≡ true → rank side (best side book) ≤ rank side o.price) book
  best_first s = each_on (λ o. rank side (best side book) ≤ rank side o.price) side book (best_ranks s)

  -- where somebody stands, there is a best price
  pub has_best : Each Fair book → Each (λ o. stands_on side o ≡ true → best side book ≡ 0 → ⊥) book
  has_best f = each_on (λ o. best side book ≡ 0 → ⊥) side book (go (queue side book) refl)
    where
      go : (q : List Order) → queue side book ≡ q → Each (λ o. best side book ≡ 0 → ⊥) q
      go [] e = tt
      go (o ∷ os) e =
          let no : best side book ≡ 0 → ⊥ = λ z. absurd (nil≢cons (sym (empty_best f z) ∙ e)) in
          every (λ p. best side book ≡ 0 → ⊥) (o ∷ os) (λ p. no)
