-- Sums of shares over a book: one order more, a weaker test, a sum split in two, a bound, and no shares at all.
use Rattle.std.specs.Prelude.{if◌then◌else◌}
use Prim.Native.Nat.{ℕ, ◌+◌, ◌*◌, ◌≤◌, zero-le}
use mathlib.Core.Path.{◌≡◌, refl, sym, ◌∙◌}
use mathlib.Core.Bool.{Bool, true, false}
use mathlib.Core.List.{List, [], ◌∷◌}
use native.Mathlib.Nat.{le_refl}
use native.Mathlib.Omega.{arith}
use lib.ListN.{length}
use Rattle.model.specs.declared.Order.{Order}
use Rattle.model.specs.Lists.{keep, total}
use Rattle.model.specs.Auction.{shares_of}
use Rattle.model.specs.Words.{Each}
use Rattle.book.specs.Standing.{Fair, Ranked}

-- ---- a number where a test holds, else 0
pub part_is : (b : Bool) (n : ℕ) → b ≡ true → (if b then n else 0) ≡ n
part_is b n e = rw e

pub part_none : (b : Bool) (n : ℕ) → b ≡ false → (if b then n else 0) ≡ 0
part_none b n e = rw e

part_le : (a b : Bool) (n : ℕ) → (a ≡ true → b ≡ true) → (if a then n else 0) ≤ (if b then n else 0)
part_le true b n h = rw (h refl) (le_refl n)
part_le false b n h = zero-le

part_most : (a : Bool) (n : ℕ) → (if a then n else 0) ≤ n
part_most true n = le_refl n
part_most false n = zero-le

-- ---- sums
pub shares_end : (f : Order → Bool) → shares_of f [] ≡ 0
unfolding shares_of keep total
shares_end f = refl

one_more :
    (b : Bool) (o : Order) (os : List Order)
    → total (λ p. p.left) (if b then o ∷ os else os) ≡ (if b then o.left else 0) + total (λ p. p.left) os
unfolding total
one_more true o os = refl
one_more false o os = omega arith

pub shares_next :
    (f : Order → Bool) (o : Order) (os : List Order)
    → shares_of f (o ∷ os) ≡ (if f o then o.left else 0) + shares_of f os
unfolding shares_of keep
shares_next f o os = one_more (f o) o (keep f os)

pub shares_le : (f g : Order → Bool) → ((o : Order) → f o ≡ true → g o ≡ true) → (os : List Order) → shares_of f os ≤ shares_of g os
shares_le f g h [] = omega (arith, shares_end f)
shares_le f g h (o ∷ os) =
    omega (arith, shares_next f o os, shares_next g o os, part_le (f o) (g o) o.left (h o), shares_le f g h os)

pub shares_same : (f g : Order → Bool) → ((o : Order) → f o ≡ g o) → (os : List Order) → shares_of f os ≡ shares_of g os
shares_same f g h os =
    let a = shares_le f g (λ o e. sym (h o) ∙ e) os in
    let b = shares_le g f (λ o e. h o ∙ e) os in
    omega arith

pub shares_split :
    (f g k : Order → Bool)
    → ((o : Order) → (if f o then o.left else 0) ≡ (if g o then o.left else 0) + (if k o then o.left else 0))
    → (os : List Order)
    → shares_of f os ≡ shares_of g os + shares_of k os
shares_split f g k h [] = omega (arith, shares_end f, shares_end g, shares_end k)
shares_split f g k h (o ∷ os) =
    omega (arith, shares_next f o os, shares_next g o os, shares_next k o os, h o, shares_split f g k h os)

shares_most : (f : Order → Bool) (os : List Order) → Each Fair os → shares_of f os ≤ length os * 1_000_000
shares_most f [] h = omega (arith, shares_end f)
shares_most f (o ∷ os) h =
    omega (arith, shares_next f o os, part_most (f o) o.left, h.0.left, shares_most f os h.1)

-- no sum over a book is above 4,096 times a million
pub shares_bound : (f : Order → Bool) (os : List Order) → Ranked os → shares_of f os ≤ 4_096_000_000
shares_bound f os r = omega (arith, shares_most f os r.stands.fair, r.few)

-- no order of the book passes the test
pub shares_none : (f : Order → Bool) → ((o : Order) → Fair o → f o ≡ false) → (os : List Order) → Each Fair os → shares_of f os ≡ 0
shares_none f h [] e = shares_end f
shares_none f h (o ∷ os) e =
    omega (arith, shares_next f o os, part_none (f o) o.left (h o e.0), shares_none f h os e.1)
