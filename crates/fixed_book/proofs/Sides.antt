-- The line as its two sides, which face each other: its orders that are not void, and what their trades come to. Assumes nothing.
use Prim.Native.Nat.{ℕ, ◌+◌, ◌≤◌}
use mathlib.Core.Path.{◌≡◌, refl, sym, ap, ap₂, ◌∙◌}
use mathlib.Core.Bool.{Bool, true, false, not, ◌&&◌}
use mathlib.Core.List.{List, [], ◌∷◌, map}
use native.Mathlib.Omega.{arith}
use lib.ListN.{length, length-map}
use lib.Dec.{eqb}
use Rattle.model.specs.declared.Order.{Order}
use Rattle.model.specs.Lists.{keep}
use Rattle.model.specs.Book.{free, is_live, stands_on}
use Rattle.model.specs.Arrival.{is_taken}
use Rattle.model.specs.Matching.{filled}
use Rattle.model.specs.Pairing.{pair}
use Rattle.model.specs.FixedBook.{is_void, arrivals, matches}
use Rattle.model.specs.Words.{Each}
use Rattle.book.specs.Standing.{Fair}
use Rattle.book.proofs.Lists.{both, each_keep, kept, keep_true, keep_false, keep_keep, keep_same, length_keep, total_keep, every}
use Rattle.book.proofs.Sorting.{Distinct}
use Rattle.book.proofs.Kept.{free_number}
use Rattle.book.proofs.Queues.{on_live, queue_length}
use Rattle.book.proofs.Counting.{queues_fit}
use Rattle.book.proofs.Parts.{not_here}
use Rattle.soundness.proofs.Totals.{shares_within}
use Rattle.pairing.proofs.Turns.{pairs, fewer_trades}
use Rattle.arrivals.proofs.Lines.{InLine, in_line, rising_distinct}
use Rattle.arrivals.proofs.Places.{kept_line}
use Rattle.fixed_book.specs.Ready.{Lined}
use Rattle.fixed_book.specs.Heads.{may_trade, brings, shares_from}
use Rattle.fixed_book.proofs.Facing.{Facing, Cleared, pairs_clear}

abbrev number : Order → ℕ
number o = o.number

-- a place of the line is taken where it is live
pub live_taken : (os : List Order) → keep is_live os ≡ keep (is_taken (λ (o : Order). o.number)) os
unfolding is_live is_taken
live_taken os = refl

-- ---- the two sides of a list

-- who passes one test has another number than who passes the other
module _ (p r : Order → Bool) (disjoint : (o : Order) → p o ≡ true → r o ≡ false) where
  abbrev Others : List Order → Order → Type 0
  Others os o = Each (λ (x : Order). x.number ≡ o.number → ⊥) (keep r os)

  others_more : (x : Order) (os : List Order) (o : Order) → (o.number ≡ x.number → ⊥) → Others os o → Others (x ∷ os) o
  others_more x os o n e = go (r x) refl
    where
      go : (b : Bool) → r x ≡ b → Others (x ∷ os) o
      go true f = rw (keep_true r x os f) (λ z. n (sym z), e)
      go false f = rw (keep_false r x os f) e

  pub two_apart : (os : List Order) → Distinct number os → Each (Others os) (keep p os)
  two_apart [] d = unfold keep in tt
  two_apart (x ∷ os) d = go (p x) refl (two_apart os d.1)
    where
      later : Each (Others os) (keep p os) → Each (Others (x ∷ os)) (keep p os)
      later e =
          both (λ o. o.number ≡ x.number → ⊥) (Others os) (Others (x ∷ os)) (keep p os) (λ o n k. others_more x os o n k)
          (each_keep (λ o. o.number ≡ x.number → ⊥) p os d.0) e

      go : (b : Bool) → p x ≡ b → Each (Others os) (keep p os) → Each (Others (x ∷ os)) (keep p (x ∷ os))
      go true f e =
          rw (keep_true p x os f)
          (rw (keep_false r x os (disjoint x f)) (each_keep (λ o. o.number ≡ x.number → ⊥) r os d.0), later e)
      go false f e = rw (keep_false p x os f) (later e)

distinct_keep : (p : Order → Bool) (os : List Order) → Distinct number os → Distinct number (keep p os)
distinct_keep p [] d = unfold keep in tt
distinct_keep p (x ∷ os) d = go (p x) refl (distinct_keep p os d.1)
  where
    go : (b : Bool) → p x ≡ b → Distinct number (keep p os) → Distinct number (keep p (x ∷ os))
    go true f e = rw (keep_true p x os f) (each_keep (λ o. o.number ≡ x.number → ⊥) p os d.0, e)
    go false f e = rw (keep_false p x os f) e

-- who stands on a side is live
pub side_live : (side : ℕ) (os : List Order) → keep (stands_on side) (keep is_live os) ≡ keep (stands_on side) os
unfolding stands_on
side_live side os =
    keep_keep (stands_on side) is_live os
    ∙ keep_same (λ o. is_live o && stands_on side o) (stands_on side) os
    (every (λ (o : Order). is_live o && stands_on side o ≡ stands_on side o) os (λ o. twice (is_live o) (eqb o.side side)))
  where
    twice : (a b : Bool) → a && (a && b) ≡ (a && b)
    twice true b = refl
    twice false b = refl

module _ (os : List Order) (fair : Each Fair os) (own : Distinct number (keep is_live os)) where
  side_some : (side : ℕ) → Each (λ o. 1 ≤ o.left) (keep (stands_on side) os)
  side_some side =
      both Fair (λ o. stands_on side o ≡ true) (λ o. 1 ≤ o.left) (keep (stands_on side) os) (λ o f e. f.some (on_live side o e))
      (each_keep Fair (stands_on side) os fair) (kept (stands_on side) os)

  side_own : (side : ℕ) → Distinct number (keep (stands_on side) os)
  side_own side = rw (sym (side_live side os)) (distinct_keep (stands_on side) (keep is_live os) own)

  pub facing : Facing (keep (stands_on 0) os) (keep (stands_on 1) os)
  facing =
      record {
        buys_some = side_some 0;
        sells_some = side_some 1;
        buys_own = side_own 0;
        sells_own = side_own 1;
        apart =
            rw (sym (side_live 0 os), sym (side_live 1 os))
            (two_apart (stands_on 0) (stands_on 1) (λ o e. not_here 0 1 o (λ z. omega arith) e) (keep is_live os) own);
      }

  -- what their trades come to
  pub matched : (close : ℕ) → Cleared (keep (stands_on 0) os) (keep (stands_on 1) os) (matches close os)
  unfolding matches arrivals pairs
  matched close = pairs_clear close (keep (stands_on 0) os) (keep (stands_on 1) os) facing

-- ---- the line at the close

module _ (close : ℕ) (book : List Order) where
  -- its orders that are not void
  abbrev pub valid : List Order
  valid = keep (λ (o : Order). not (is_void close o)) book

  side_valid : (side : ℕ) → map brings (keep (stands_on side) valid) ≡ shares_from close side 0 book
  unfolding shares_from may_trade
  side_valid side = ap (map brings) (keep_keep (stands_on side) (λ (o : Order). not (is_void close o)) book)

  -- as the walk sees them
  pub closing_pairs : matches close (keep (λ o. not (is_void close o)) book) ≡ pairs close (shares_from close 0 0 book) (shares_from close 1 0 book)
  unfolding matches arrivals pairs
  closing_pairs = ap₂ (λ bs ss. pair (length bs + length ss) close bs ss) (side_valid 0) (side_valid 1)

  module _ (l : Lined book) where
    pub valid_fair : Each Fair valid
    valid_fair = each_keep Fair (λ o. not (is_void close o)) book l.fair

    pub valid_line : InLine number valid
    valid_line = kept_line number free free_number (λ o. not (is_void close o)) book (in_line number book l.arrived)

    valid_own : Distinct number (keep is_live valid)
    valid_own = rw (live_taken valid) (rising_distinct number 0 (keep (is_taken number) valid) valid_line.rises)

    pub closed : Cleared (keep (stands_on 0) valid) (keep (stands_on 1) valid) (matches close (keep (λ o. not (is_void close o)) book))
    closed = matched valid valid_fair valid_own close

    -- no more shares than the line has, and fewer trades than it has places
    pub closing_shares : filled (matches close (keep (λ o. not (is_void close o)) book)) ≤ 4_096_000_000
    closing_shares =
        omega (
          arith,
          closed.smaller,
          total_keep (λ (o : Order). o.left) (stands_on 0) valid,
          total_keep (λ (o : Order). o.left) (λ o. not (is_void close o)) book,
          shares_within book l.fair l.few,
        )

    pub closing_few : length (matches close (keep (λ o. not (is_void close o)) book)) ≤ length book
    unfolding matches arrivals pairs
    closing_few =
        omega (
          arith,
          fewer_trades close (map brings (keep (stands_on 0) valid)) (map brings (keep (stands_on 1) valid)),
          length-map (keep (stands_on 0) valid) brings,
          length-map (keep (stands_on 1) valid) brings,
          queues_fit valid valid_fair,
          queue_length 0 valid,
          queue_length 1 valid,
          length_keep (λ o. not (is_void close o)) book,
        )

    pub closing_trades : length (matches close (keep (λ o. not (is_void close o)) book)) ≤ 4_096
    closing_trades = omega (arith, closing_few, l.few)
