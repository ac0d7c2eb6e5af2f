-- An arranged book is in order, holds the same orders, and stands where they do: so the next call may be made on it.
use Rattle.std.specs.Prelude.{if◌then◌else◌}
use Prim.Native.Nat.{ℕ, zero, suc, ◌+◌, ◌≤◌}
use mathlib.Core.Path.{◌≡◌, refl, sym, ap, ◌∙◌}
use mathlib.Core.Bool.{Bool, true, false}
use mathlib.Core.List.{List, [], ◌∷◌, ◌++◌}
use mathlib.Core.Logic.{inl, inr}
use native.Mathlib.Omega.{arith}
use lib.ListN.{length, replicate, length-take, length-append, length-replicate}
use Rattle.model.specs.declared.Order.{Order}
use Rattle.model.specs.Lists.{keep, total}
use Rattle.model.specs.Book.{free, stands_on, insert, in_priority, queue, head_price, best, arranged}
use Rattle.model.specs.Sound.{crosses}
use Rattle.model.specs.Calls.{cleared}
use Rattle.model.specs.Words.{Each, Apart}
use Rattle.book.specs.Standing.{Fair, Standing, Ranked}
use Rattle.book.proofs.Lists.{each, every, each_keep, each_append, each_take, kept_next}
use Rattle.book.proofs.Sorting.{Distinct}
use Rattle.book.proofs.Queues.{Place, place_of, each_queue, total_queue}
use Rattle.book.proofs.Kept.{free_number, standing_cleared}
use Rattle.book.proofs.Numbers.{times, times_other, none_bears, queue_own}
use Rattle.book.proofs.Parts.{Parts, each_same, spare_in, arranged_parts, parts_fair, parts_ordered, queue_buys, queue_sells}

-- ---- numbers that stay apart

-- a number that none of them has, unless it is 0
abbrev Misses : List Order → ℕ → Type 0
Misses os n = Each (λ (p : Order). p.number ≡ n → n ≡ 0) os

distinct_apart : (os : List Order) → Distinct (λ o. o.number) os → Apart os
distinct_apart [] d = tt
distinct_apart (o ∷ os) d = (
  each (λ p. p.number ≡ o.number → ⊥) (λ (p : Order). p.number ≡ o.number → o.number ≡ 0) os (λ p f e. absurd (f e)) d.0,
  distinct_apart os d.1,
)

apart_append : (os ps : List Order) → Apart os → Apart ps → Each (λ o. Misses ps o.number) os → Apart (os ++ ps)
apart_append [] ps a b e = b
apart_append (o ∷ os) ps a b e = (
  each_append (λ (p : Order). p.number ≡ o.number → o.number ≡ 0) os ps a.0 e.0,
  apart_append os ps a.1 b e.1,
)

frees_miss : (k n : ℕ) → Misses (replicate k free) n
frees_miss zero n = tt
frees_miss (suc k) n = (λ e. sym e ∙ free_number, frees_miss k n)

frees_apart : (k : ℕ) → Apart (replicate k free)
frees_apart zero = tt
frees_apart (suc k) = (frees_miss k free.number, frees_apart k)

-- ---- what each order has, and a free place, each place has

pub each_arranged : (P : Order → Type 0) (n : ℕ) (os : List Order) → P free → Each P os → Each P (arranged n os)
unfolding arranged
each_arranged P n os f e =
    each_take P n (queue 0 os ++ (queue 1 os ++ replicate n free))
    (each_append P (queue 0 os) (queue 1 os ++ replicate n free) (each_queue P 0 os (each_keep P (stands_on 0) os e))
    (each_append P (queue 1 os) (replicate n free) (each_queue P 1 os (each_keep P (stands_on 1) os e)) (each_same P n free f)))

-- ---- as many places as asked for

pub arranged_length : (n : ℕ) (os : List Order) → length (arranged n os) ≡ n
unfolding arranged
arranged_length n os = simp (length-take, length-append, length-replicate) (omega arith)

-- ---- sums

total_append : {A : Type 0} (f : A → ℕ) (xs ys : List A) → total f (xs ++ ys) ≡ total f xs + total f ys
unfolding total
total_append f [] ys = omega arith
total_append f (x ∷ xs) ys = omega (arith, total_append f xs ys)

total_frees : (f : Order → ℕ) → f free ≡ 0 → (k : ℕ) → total f (replicate k free) ≡ 0
unfolding total
total_frees f z zero = refl
total_frees f z (suc k) = omega (arith, z, total_frees f z k)

-- a sum over orders is that over the buys and that over the sells
total_sides :
    (f : Order → ℕ)
    → f free ≡ 0
    → (os : List Order)
    → Each Fair os
    → total f (keep (stands_on 0) os) + total f (keep (stands_on 1) os) ≡ total f os
total_sides f z [] e = unfold keep total in refl
total_sides f z (o ∷ os) e =
    omega (arith, kept_next (stands_on 0) f o os, kept_next (stands_on 1) f o os, one (place_of o e.0), total_sides f z os e.1, next)
  where
    next : total f (o ∷ os) ≡ f o + total f os
    next = unfold total in refl

    one : Place o → (if stands_on 0 o then f o else 0) + (if stands_on 1 o then f o else 0) ≡ f o
    one (inl k) = rw (k.0, k.1) (omega arith)
    one (inr (inl k)) = rw (k.0, k.1) (omega arith)
    one (inr (inr k)) = rw (k.0, k.1) (sym (ap f (e.0.none k.2) ∙ z))

-- ---- a cleared book

pub cleared_frees : (book : List Order) → cleared book ≡ replicate (length book) free
unfolding cleared
cleared_frees [] = refl
cleared_frees (o ∷ os) = ap (λ (l : List Order). free ∷ l) (cleared_frees os)

pub cleared_ranked : (book : List Order) → length book ≤ 4_096 → Ranked (cleared book)
cleared_ranked book few =
    record {
      stands = standing_cleared book;
      few = rw (cleared_frees book, length-replicate (length book) free) few;
      ordered = parts_ordered parts;
    }
  where
    parts : Parts (cleared book) [] [] (length book)
    parts = record { made = cleared_frees book; buying = tt; selling = tt; buys_rise = tt; sells_rise = tt }

-- ---- the same queues, the same book

pub same_arranged : (n : ℕ) (os ps : List Order) → queue 0 os ≡ queue 0 ps → queue 1 os ≡ queue 1 ps → arranged n os ≡ arranged n ps
unfolding arranged
same_arranged n os ps e f = rw (e, f)

-- a queue with one order more
pub queue_with :
    (side : ℕ) (o : Order) (os : List Order)
    → queue side (o ∷ os) ≡ (if stands_on side o then insert side o (queue side os) else queue side os)
unfolding queue in_priority keep
queue_with side o os = go (stands_on side o)
  where
    go :
        (b : Bool)
        → in_priority side (if b then o ∷ keep (stands_on side) os else keep (stands_on side) os)
        ≡ (if b then insert side o (in_priority side (keep (stands_on side) os)) else in_priority side (keep (stands_on side) os))
    go true = refl
    go false = refl

-- ---- the book then

module _ (n : ℕ) (os : List Order) (s : Standing os) (fit : length (queue 0 os) + length (queue 1 os) ≤ n) where
  parts : Parts (arranged n os) (queue 0 os) (queue 1 os) (spare_in n os fit)
  parts = arranged_parts n os fit s

  pub arranged_buys : queue 0 (arranged n os) ≡ queue 0 os
  arranged_buys = queue_buys parts

  pub arranged_sells : queue 1 (arranged n os) ≡ queue 1 os
  arranged_sells = queue_sells parts

  pub arranged_stands : Standing (arranged n os)
  arranged_stands = record { fair = parts_fair parts; apart = rw parts.made apart }
    where
      other_side : Each (λ o. Misses (queue 1 os) o.number) (queue 0 os)
      other_side =
          each (λ o. times o.number (queue 1 os) ≡ 0) (λ o. Misses (queue 1 os) o.number) (queue 0 os)
          (λ o z.
          each (λ p. p.number ≡ o.number → ⊥) (λ (p : Order). p.number ≡ o.number → o.number ≡ 0) (queue 1 os)
          (λ p f e. absurd (f e))
          (none_bears o.number (queue 1 os) z))
          (times_other os s 0 1 (λ e. omega arith))

      behind : Apart (queue 1 os ++ replicate (spare_in n os fit) free)
      behind =
          apart_append (queue 1 os) (replicate (spare_in n os fit) free) (distinct_apart (queue 1 os) (queue_own os s 1)) (frees_apart (spare_in n os fit))
          (every (λ o. Misses (replicate (spare_in n os fit) free) o.number) (queue 1 os) (λ o. frees_miss (spare_in n os fit) o.number))

      apart : Apart (queue 0 os ++ (queue 1 os ++ replicate (spare_in n os fit) free))
      apart =
          apart_append (queue 0 os) (queue 1 os ++ replicate (spare_in n os fit) free) (distinct_apart (queue 0 os) (queue_own os s 0)) behind
          (each (λ o. Misses (queue 1 os) o.number) (λ o. Misses (queue 1 os ++ replicate (spare_in n os fit) free) o.number) (queue 0 os)
          (λ o m. each_append (λ (p : Order). p.number ≡ o.number → o.number ≡ 0) (queue 1 os) (replicate (spare_in n os fit) free) m (frees_miss (spare_in n os fit) o.number))
          other_side)

  pub arranged_ranked : n ≤ 4_096 → Ranked (arranged n os)
  arranged_ranked few =
      record { stands = arranged_stands; few = omega (arith, arranged_length n os); ordered = parts_ordered parts }

  -- ---- what is read off the queues is the same

  pub arranged_best : (side : ℕ) → side ≤ 1 → best side (arranged n os) ≡ best side os
  unfolding best
  arranged_best zero h = ap head_price arranged_buys
  arranged_best (suc zero) h = ap head_price arranged_sells
  arranged_best (suc (suc side)) h = absurd (omega arith)

  pub arranged_crosses : crosses (arranged n os) ≡ crosses os
  unfolding crosses
  arranged_crosses = rw (arranged_best 0 (omega arith), arranged_best 1 (omega arith))

  -- ---- what free places do not count, adds up to the same

  pub total_arranged : (f : Order → ℕ) → f free ≡ 0 → total f (arranged n os) ≡ total f os
  total_arranged f z =
      ap (total f) parts.made
      ∙ total_append f (queue 0 os) (queue 1 os ++ replicate (spare_in n os fit) free)
      ∙ ap (λ k. total f (queue 0 os) + k)
      (total_append f (queue 1 os) (replicate (spare_in n os fit) free)
      ∙ ap (λ k. total f (queue 1 os) + k) (total_frees f z (spare_in n os fit)))
      ∙ omega (arith, total_queue f 0 os, total_queue f 1 os, total_sides f z os s.fair)

  -- ---- arranged again, with an order more or none

  same_with : (o : Order) (side : ℕ) → queue side (arranged n os) ≡ queue side os → queue side (o ∷ arranged n os) ≡ queue side (o ∷ os)
  same_with o side e = queue_with side o (arranged n os) ∙ ap (λ (q : List Order). if stands_on side o then insert side o q else q) e ∙ sym (queue_with side o os)

  pub arranged_again : arranged n (arranged n os) ≡ arranged n os
  arranged_again = same_arranged n (arranged n os) os arranged_buys arranged_sells

  pub arranged_with : (o : Order) → arranged n (o ∷ arranged n os) ≡ arranged n (o ∷ os)
  arranged_with o =
      same_arranged n (o ∷ arranged n os) (o ∷ os) (same_with o 0 arranged_buys) (same_with o 1 arranged_sells)
