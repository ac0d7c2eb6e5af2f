-- An order's rules by the book: the base of its range, whether it is outside, and which of these rules is the first to hold.
-- Assumes nothing.
use Prim.Native.Nat.{ℕ, ◌+◌, ◌≤◌}
use mathlib.Core.Path.{◌≡◌, refl, sym, ap, ◌∙◌}
use mathlib.Core.Bool.{Bool, true, false, not, ◌&&◌}
use mathlib.Core.List.{List}
use lib.ListN.{length}
use lib.Dec.{ltb, eqb}
use borrow.Author.Tests.{le-leb, le-ltb, eq-eqb, ne_eqb, eqb-false}
use native.Mathlib.Omega.{arith}
use Rattle.model.specs.declared.Order.{Order}
use Rattle.model.specs.declared.Asked.{Asked}
use Rattle.model.specs.declared.Day.{Day}
use Rattle.model.specs.declared.Trade.{Trade}
use Rattle.model.specs.Lists.{all}
use Rattle.model.specs.Clock.{continuous}
use Rattle.model.specs.Halts.{phase_now}
use Rattle.model.specs.Limits.{is_price, in_range}
use Rattle.model.specs.Book.{is_live, queue, best, other}
use Rattle.model.specs.Figures.{reference}
use Rattle.model.specs.Entry.{entry_trades, base}
use Rattle.model.specs.Refusals.{◌when◌, first_of}
use Rattle.model.proofs.Bools.{and_left, and_right, and_both, not_both}
use Rattle.model.proofs.Rules.{Numbered}
use Rattle.book.specs.Standing.{Standing, Ranked}
use Rattle.book.proofs.Lists.{length_keep}
use Rattle.book.proofs.Counting.{orders, queues_orders, full, not_full}
use Rattle.book.proofs.Best.{best_price}
use Rattle.matching.specs.declared.Swept.{Swept}
use Rattle.matching.specs.Sweeping.{comes_to}
use Rattle.matching.proofs.EntryLaws.{entry_few}
use Rattle.checks.specs.Checks.{base_from, outside_of, book_rules}

-- ---- the base of the range

module _ (d : Day) (own opp : ℕ) where
  pub base_other : (opp ≡ 0 → ⊥) → opp ≡ base_from d own opp
  unfolding base_from
  base_other n = rw (ne_eqb opp 0 n)

  module _ (z : opp ≡ 0) where
    pub base_own : (own ≡ 0 → ⊥) → own ≡ base_from d own opp
    unfolding base_from
    base_own n = rw (eq-eqb opp 0 z, ne_eqb own 0 n)

    pub base_last : {r : ℕ} → own ≡ 0 → r ≡ reference d → r ≡ base_from d own opp
    unfolding base_from
    base_last y g = rw (eq-eqb opp 0 z, eq-eqb own 0 y) g

is_price_lem : (p : ℕ) → 1 ≤ p → p ≤ 999_999 → is_price p ≡ true
unfolding is_price
is_price_lem p l h = and_both (le-leb 1 p l) (le-leb p 999_999 h)

-- a best price that is there is a price
best_is_price : (side : ℕ) (book : List Order) → Standing book → (best side book ≡ 0 → ⊥) → is_price (best side book) ≡ true
best_is_price side book s n =
    let l : 1 ≤ best side book = omega arith in
    is_price_lem (best side book) l (best_price side book s.fair)

-- ---- what was handed in

module _ (d : Day) (a : Asked) (book : List Order) {phase own opp : ℕ} (ep : phase ≡ phase_now d) (eo : own ≡ best a.side book) (ex : opp ≡ best (other a.side) book) where
  base_is : base_from d own opp ≡ base d a.side book
  unfolding base_from base
  base_is = rw (eo, ex)

  -- the base is a price, where the reference price is one
  pub base_is_price : {b : ℕ} → Standing book → is_price (reference d) ≡ true → b ≡ base_from d own opp → is_price b ≡ true
  base_is_price {b} s r e = rw (e, base_is) (go (eqb (best (other a.side) book) 0) refl (eqb (best a.side book) 0) refl)
    where
      ne : (n : ℕ) → eqb n 0 ≡ false → n ≡ 0 → ⊥
      ne n f z = not_both (eq-eqb n 0 z) f

      go :
          (p : Bool) → eqb (best (other a.side) book) 0 ≡ p → (q : Bool) → eqb (best a.side book) 0 ≡ q
          → is_price (base d a.side book) ≡ true
      go false f q g = unfold base in rw f (best_is_price (other a.side) book s (ne _ f))
      go true f false g = unfold base in rw (f, g) (best_is_price a.side book s (ne _ g))
      go true f true g = unfold base in rw (f, g) r

  pub outside_is : {b : ℕ} {r : Bool} → b ≡ base_from d own opp → r ≡ outside_of a phase b → r ≡ outside_of a (phase_now d) (base d a.side book)
  outside_is e f =
      f
      ∙ ap (λ (n : ℕ). outside_of a phase n) (e ∙ base_is)
      ∙ ap (λ (n : ℕ). outside_of a n (base d a.side book)) ep

-- ---- outside the range

pub and_first : {f x : Bool} (y : Bool) → x ≡ false → f ≡ x → f ≡ (x && y)
and_first y t e = rw (e, t)

module _ (a : Asked) (phase base : ℕ) {f : Bool} (e : f ≡ (eqb a.kind 0 && eqb phase 4)) where
  pub by_range :
      {r : Bool}
      → f ≡ true
      → is_price base ≡ true
      → is_price a.price ≡ true
      → r ≡ (is_price base && is_price a.price && in_range a.side base a.price)
      → not r ≡ outside_of a phase base
  unfolding continuous
  by_range t b p g =
      rw (
        and_left (eqb a.kind 0) (eqb phase 4) (sym e ∙ t),
        and_right (eqb a.kind 0) (eqb phase 4) (sym e ∙ t),
        g,
        b,
        p,
      )

  pub not_by_range : f ≡ false → f ≡ outside_of a phase base
  unfolding continuous
  not_by_range t = t ∙ go (eqb a.kind 0) (eqb phase 4) (sym e ∙ t)
    where
      go : (x y : Bool) → (x && y) ≡ false → false ≡ (x && y && not (in_range a.side base a.price))
      go true true n = absurd (not_both refl n)
      go true false n = refl
      go false y n = refl

-- ---- which is the first

module _ (d : Day) (a : Asked) (book : List Order) where
  pub book_range : outside_of a (phase_now d) (base d a.side book) ≡ true → 9 ≡ first_of (book_rules d a book)
  unfolding book_rules first_of ◌when◌
  book_range o = rw o

  module _ (o : outside_of a (phase_now d) (base d a.side book) ≡ false) where
    pub book_full : all is_live book ≡ true → 10 ≡ first_of (book_rules d a book)
    unfolding book_rules first_of ◌when◌
    book_full l = rw (o, l)

    module _ (l : all is_live book ≡ false) where
      pub book_issued : d.issued ≡ 999_999 → 11 ≡ first_of (book_rules d a book)
      unfolding book_rules first_of ◌when◌
      book_issued i = rw (o, l, eq-eqb d.issued 999_999 i)

      pub book_none : (d.issued ≡ 999_999 → ⊥) → 0 ≡ first_of (book_rules d a book)
      unfolding book_rules first_of ◌when◌
      book_none i = rw (o, l, ne_eqb d.issued 999_999 i)

  pub book_numbered : Numbered (book_rules d a book)
  unfolding book_rules ◌when◌
  book_numbered = (eqb-false 9 0 refl, (eqb-false 10 0 refl, (eqb-false 11 0 refl, tt)))

-- ---- what the code found

module _ (rows : List Order) (r : Ranked rows) {n : ℕ} (e : n ≡ length (queue 0 rows) + length (queue 1 rows)) where
  places : length rows ≡ length rows
  places = refl

  counted : n ≡ orders rows
  counted = e ∙ queues_orders rows r.stands.fair

  pub full_of : n ≡ length rows → all is_live rows ≡ true
  full_of h = full rows (omega (arith, places, counted))

  pub free_of : (n ≡ length rows → ⊥) → all is_live rows ≡ false
  free_of h = not_full rows (omega (arith, places, counted, length_keep is_live rows))

-- no order has more trades than the book has places
pub list_holds_entry :
    (d : Day) (a : Asked) (rows : List Order) (room : ℕ)
    → length rows ≤ room
    → false ≡ ltb room (length (entry_trades d a rows))
list_holds_entry d a rows room h =
    let book = rows in
    sym (le-ltb room (length (entry_trades d a book)) (omega (arith, h, entry_few d a book)))

pub counted_trades : {s : Swept} (ts : List Trade) → s ≡ comes_to ts → s.trades ≡ length ts
unfolding comes_to
counted_trades ts e = rw e
