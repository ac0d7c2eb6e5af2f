-- Laws of the first place that passes a test: what `position` says of it, when there is one, and the book without an account's order.
use Prim.Native.Nat.{ℕ, suc, ◌+◌, ◌≤◌, ◌<◌}
use mathlib.Core.Path.{◌≡◌, refl, sym, ap, ◌∙◌}
use mathlib.Core.Bool.{Bool, true, false, cond, not, ◌&&◌, ◌||◌}
use mathlib.Core.List.{List, [], ◌∷◌, ◌++◌}
use native.Mathlib.Omega.{arith}
use lib.ListN.{length, take, drop, get_or}
use lib.Dec.{ltb, eqb}
use Rattle.std.proofs.Common.{rules}
use borrow.Author.Tests.{lt-ltb, eqb-true, ltb-true, ltb-false}
use Rattle.std.specs.Prelude.{Some, None}
use Rattle.std.specs.List.{position, position_or_len}
use Rattle.std.proofs.lemmas.List.Recursion.{is_position_or_len}
use Rattle.model.specs.declared.Order.{Order}
use Rattle.model.specs.Lists.{keep, any, total}
use Rattle.model.specs.Book.{free, is_live}
use Rattle.model.specs.Calls.{is_own}
use Rattle.model.proofs.Bools.{and_left, and_right}
use Rattle.model.specs.Words.{Each, Apart}
use Rattle.book.specs.Places.{first_with, place_of}
use Rattle.book.proofs.Lists.{each, keep_true, keep_false, keep_all, keep_none}
use Rattle.book.proofs.Queues.{live_number, ltb_same}

-- ---- the place that `position` finds

module _ (p : Order → Bool) where
  -- ---- when there is one

  pub first_bound : (book : List Order) → first_with p book ≤ length book
  unfolding first_with
  first_bound [] = omega arith
  first_bound (o ∷ os) = go (p o) (first_bound os)
    where
      go : (b : Bool) → first_with p os ≤ length os → cond b 0 (suc (first_with p os)) ≤ suc (length os)
      go true h = omega arith
      go false h = omega arith

  -- the one that is found passes
  pub first_passes : (book : List Order) (d : Order) → first_with p book < length book → p (get_or book (first_with p book) d) ≡ true
  unfolding first_with
  first_passes [] d h = absurd (omega arith)
  first_passes (o ∷ os) d h = go (p o) refl h (first_passes os d)
    where
      go :
          (b : Bool)
          → p o ≡ b
          → cond b 0 (suc (first_with p os)) < suc (length os)
          → (first_with p os < length os → p (get_or os (first_with p os) d) ≡ true)
          → p (get_or (o ∷ os) (cond b 0 (suc (first_with p os))) d) ≡ true
      go true e h ih = e
      go false e h ih = ih (omega arith)

  pub any_first : (book : List Order) → any p book ≡ ltb (first_with p book) (length book)
  unfolding any first_with
  any_first [] = refl
  any_first (o ∷ os) = go (p o) (any_first os)
    where
      go :
          (b : Bool)
          → any p os ≡ ltb (first_with p os) (length os)
          → b || any p os ≡ ltb (cond b 0 (suc (first_with p os))) (suc (length os))
      go true h = sym (lt-ltb 0 (suc (length os)) (omega arith))
      go false h =
          h
          ∙ ltb_same (first_with p os) (length os) (suc (first_with p os)) (suc (length os)) (λ l. omega arith)
          (λ l. omega arith)

  first_position : (book : List Order) → first_with p book ≡ position_or_len p book
  unfolding first_with
  first_position book = is_position_or_len (first_with p) p refl (λ o os. go o os (p o)) book
    where
      go : (o : Order) (os : List Order) (b : Bool) → cond b 0 (suc (first_with p os)) ≡ cond b 0 (1 + first_with p os)
      go o os true = refl
      go o os false = omega arith

  -- what `position` answers: no place, or the first that passes
  pub no_first : (book : List Order) → None ≡ position p book → first_with p book ≡ length book
  no_first book e = go (ltb (position_or_len p book) (length book)) refl e
    where
      go :
          (b : Bool)
          → ltb (position_or_len p book) (length book) ≡ b
          → None ≡ cond b (Some (position_or_len p book)) None
          → first_with p book ≡ length book
      go true t n = absurd (search (rules, n))
      go false t n = omega (arith, ltb-false _ _ t, first_position book, first_bound book)

  pub first_found : (book : List Order) {place : ℕ} → Some place ≡ position p book → (place < length book) × (place ≡ first_with p book)
  first_found book {place} e = go (ltb (position_or_len p book) (length book)) refl e
    where
      go :
          (b : Bool)
          → ltb (position_or_len p book) (length book) ≡ b
          → Some place ≡ cond b (Some (position_or_len p book)) None
          → (place < length book) × (place ≡ first_with p book)
      go true t n = let same : place ≡ position_or_len p book = search (rules, n) in (omega (arith, ltb-true _ _ t), same ∙ sym (first_position book))
      go false t n = absurd (search (rules, n))

-- ---- an account's own order

module _ (account number : ℕ) where
  abbrev own : Order → Bool
  own o = is_own account number o

  -- what `position` answers of an account's order
  pub no_place : (book : List Order) → None ≡ position (is_own account number) book → place_of account number book ≡ length book
  unfolding place_of
  no_place book e = no_first own book e

  pub its_place :
      (book : List Order) {place : ℕ}
      → Some place ≡ position (is_own account number) book
      → (place < length book) × (place ≡ place_of account number book)
  unfolding place_of
  its_place book e = first_found own book e

  pub own_any : (book : List Order) → any (is_own account number) book ≡ ltb (place_of account number book) (length book)
  unfolding place_of
  own_any book = any_first own book

  own_number : (o : Order) → own o ≡ true → (o.number ≡ number) × (o.number ≡ 0 → ⊥)
  unfolding is_own
  own_number o e =
      let f = and_left (is_live o && eqb o.number number) (eqb o.account account) e in (
        eqb-true o.number number (and_right (is_live o) (eqb o.number number) f),
        live_number o (and_left (is_live o) (eqb o.number number) f),
      )

  -- where one order is the account's, no other one with another number is
  others :
      (o : Order) (os : List Order)
      → own o ≡ true
      → Each (λ p. p.number ≡ o.number → o.number ≡ 0) os
      → Each (λ p. own p ≡ false) os
  others o os e a =
      each (λ p. p.number ≡ o.number → o.number ≡ 0) (λ p. own p ≡ false) os (λ p n. go p n (own p) refl) a
    where
      go : (p : Order) → (p.number ≡ o.number → o.number ≡ 0) → (b : Bool) → own p ≡ b → b ≡ false
      go p n true f = absurd ((own_number o e).1 (n ((own_number p f).0 ∙ sym (own_number o e).0)))
      go p n false f = refl

  -- where the account has such an order, it is live
  pub own_live : (book : List Order) → place_of account number book < length book → (get_or book (place_of account number book) free).number ≡ 0 → ⊥
  unfolding place_of
  own_live book h = (own_number (get_or book (first_with own book) free) (first_passes own book free h)).1

  -- no free place is anybody's
  pub free_foreign : not (own free) ≡ true
  unfolding is_own is_live free
  free_foreign = refl

  -- a cancel takes out one place; where the account has no such order, nothing changes
  pub cancel_keeps :
      (book : List Order)
      → Apart book
      → keep (λ o. not (own o)) book
      ≡ take (place_of account number book) book ++ drop (suc (place_of account number book)) book
  unfolding place_of first_with
  cancel_keeps [] a = unfold keep in refl
  cancel_keeps (o ∷ os) a = go (own o) refl (cancel_keeps os a.1)
    where
      go :
          (b : Bool)
          → own o ≡ b
          → keep (λ x. not (own x)) os ≡ take (first_with own os) os ++ drop (suc (first_with own os)) os
          → keep (λ x. not (own x)) (o ∷ os)
          ≡ take (cond b 0 (suc (first_with own os))) (o ∷ os) ++ drop (suc (cond b 0 (suc (first_with own os)))) (o ∷ os)
      go true e h =
          keep_false (λ x. not (own x)) o os (ap not e)
          ∙ keep_all (λ x. not (own x)) os
          (each (λ x. own x ≡ false) (λ x. not (own x) ≡ true) os (λ x f. ap not f) (others o os e a.0))
      go false e h = keep_true (λ x. not (own x)) o os (ap not e) ∙ ap (λ (l : List Order). o ∷ l) h

  -- and withdraws what is left there
  pub cancel_left_lem :
      (book : List Order)
      → Apart book
      → total (λ o. o.left) (keep (is_own account number) book) ≡ (get_or book (place_of account number book) free).left
  unfolding place_of first_with
  cancel_left_lem [] a = unfold keep total free in refl
  cancel_left_lem (o ∷ os) a = go (own o) refl (cancel_left_lem os a.1)
    where
      go :
          (b : Bool)
          → own o ≡ b
          → total (λ x. x.left) (keep own os) ≡ (get_or os (first_with own os) free).left
          → total (λ x. x.left) (keep own (o ∷ os)) ≡ (get_or (o ∷ os) (cond b 0 (suc (first_with own os))) free).left
      go true e h =
          ap (total (λ x. x.left))
          (keep_true own o os e ∙ ap (λ (l : List Order). o ∷ l) (keep_none own os (others o os e a.0)))
          ∙ unfold total in omega arith
      go false e h = ap (total (λ x. x.left)) (keep_false own o os e) ∙ h
