-- The shares left of a fair book: how many at most, none exactly where it is empty, and summed place by place. Assumes nothing.
use Prim.Native.Nat.{ℕ, ◌+◌, ◌*◌, ◌≤◌, ◌<◌}
use mathlib.Core.Path.{◌≡◌, refl, ap}
use mathlib.Core.Bool.{Bool, true, false}
use mathlib.Core.List.{List, [], ◌∷◌}
use native.Mathlib.Omega.{arith}
use lib.Dec.{eqb}
use lib.ListN.{length, get_or, drop, drop_of_length-le}
use borrow.Author.Tests.{eqb-true, eqb-false}
use Rattle.model.specs.declared.Order.{Order}
use Rattle.model.specs.Lists.{total}
use Rattle.model.specs.Book.{free}
use Rattle.model.specs.Sound.{is_empty}
use Rattle.model.specs.Words.{Each}
use Rattle.book.specs.Standing.{Fair}
use Rattle.soundness.proofs.Says.{says_eq, says_same}
use Rattle.soundness.proofs.Clauses.{says_empty}
use Rattle.soundness.proofs.Onward.{onward}

abbrev shares : List Order → ℕ
shares book = total (λ (o : Order). o.left) book

pub most_shares : (book : List Order) → Each Fair book → shares book ≤ 1_000_000 * length book
unfolding total
most_shares [] f = omega arith
most_shares (o ∷ os) f = omega (arith, f.0.left, most_shares os f.1)

pub shares_within : (book : List Order) → Each Fair book → length book ≤ 4_096 → shares book ≤ 4_096_000_000
shares_within book f l = omega (arith, most_shares book f)

-- ---- nothing is left exactly where no place has an order

nothing_left : (o : Order) → Fair o → o.number ≡ 0 → o.left ≡ 0
unfolding free
nothing_left o f n = ap (λ (x : Order). x.left) (f.none n)

no_order : (o : Order) → Fair o → o.left ≡ 0 → o.number ≡ 0
no_order o f z = go (eqb o.number 0) refl
  where
    go : (t : Bool) → eqb o.number 0 ≡ t → o.number ≡ 0
    go true e = eqb-true o.number 0 e
    go false e = absurd (omega (arith, f.some (eqb-false o.number 0 e)))

no_shares : (book : List Order) → Each Fair book → Each (λ o. o.number ≡ 0) book → shares book ≡ 0
unfolding total
no_shares [] f n = refl
no_shares (o ∷ os) f n = omega (arith, nothing_left o f.0 n.0, no_shares os f.1 n.1)

no_orders : (book : List Order) → Each Fair book → shares book ≡ 0 → Each (λ o. o.number ≡ 0) book
unfolding total
no_orders [] f z = tt
no_orders (o ∷ os) f z =
    let head : o.left ≡ 0 = omega arith in
    let rest : shares os ≡ 0 = omega arith in
    (no_order o f.0 head, no_orders os f.1 rest)

pub empty_is : (book : List Order) → Each Fair book → is_empty book ≡ eqb (shares book) 0
empty_is book f = says_same (no_shares book f) (no_orders book f) (says_empty book) (says_eq (shares book) 0)

-- ---- the sum, place by place: what is summed and what is left to sum make the whole

pub record Summed (rows : List Order) (sum i : ℕ) : Type 0 where
  pub within : i ≤ length rows
  pub whole : sum + shares (drop i rows) ≡ shares rows

pub sum_none : (rows : List Order) → Summed rows 0 0
sum_none rows = record { within = omega arith; whole = omega arith }

module _ (rows : List Order) (sum i : ℕ) (s : Summed rows sum i) where
  left_and_rest :
      (o : Order)
      → i < length rows
      → o ≡ get_or rows i free
      → shares (drop i rows) ≡ o.left + shares (drop (i + 1) rows)
  unfolding total
  left_and_rest o l e = ap shares (onward rows i o l e)

  -- the sum so far never passes that of the book
  pub sum_small : (o : Order) → i < length rows → o ≡ get_or rows i free → sum + o.left ≤ shares rows
  sum_small o l e = omega (arith, left_and_rest o l e, s.whole)

  pub sum_more : (o : Order) → i < length rows → o ≡ get_or rows i free → Summed rows (sum + o.left) (i + 1)
  sum_more o l e = record { within = omega arith; whole = omega (arith, left_and_rest o l e, s.whole) }

  pub sum_all : length rows ≤ i → sum ≡ shares rows
  unfolding total
  sum_all l =
      let none : shares (drop i rows) ≡ 0 = ap (λ (r : List Order). shares r) (drop_of_length-le rows l) in
      omega (arith, s.whole)
