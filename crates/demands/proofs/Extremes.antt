-- The highest and the lowest price of trades: they enclose the first and the last, and go on over further trades. Assumes nothing.
use Prim.Native.Nat.{ℕ, ◌≤◌, min, max}
use mathlib.Core.Path.{◌≡◌, refl}
use mathlib.Core.List.{List, [], ◌∷◌, ◌++◌}
use native.Mathlib.Omega.{arith}
use Rattle.model.specs.declared.Trade.{Trade}
use Rattle.model.specs.Matching.{first_price, last_price, highest, lowest}

-- ---- they enclose

highest_from : (p : ℕ) (ts : List Trade) → p ≤ highest p ts
unfolding highest
highest_from p [] = omega arith
highest_from p (t ∷ ts) = omega (arith, highest_from (max p t.price) ts)

lowest_from : (p : ℕ) (ts : List Trade) → lowest p ts ≤ p
unfolding lowest
lowest_from p [] = omega arith
lowest_from p (t ∷ ts) = omega (arith, lowest_from (min p t.price) ts)

last_highest : (q p : ℕ) (ts : List Trade) → q ≤ p → last_price q ts ≤ highest p ts
unfolding last_price highest
last_highest q p [] l = l
last_highest q p (t ∷ ts) l = last_highest t.price (max p t.price) ts (omega arith)

lowest_last : (p q : ℕ) (ts : List Trade) → p ≤ q → lowest p ts ≤ last_price q ts
unfolding last_price lowest
lowest_last p q [] l = l
lowest_last p q (t ∷ ts) l = lowest_last (min p t.price) t.price ts (omega arith)

-- low and high enclose these two
abbrev pub Between : ℕ → ℕ → ℕ → ℕ → Type 0
Between low high first last = (low ≤ first) × (first ≤ high) × (low ≤ last) × (last ≤ high)

-- begun by the first trade
pub first_between : (ts : List Trade) → Between (lowest (first_price 0 ts) ts) (highest (first_price 0 ts) ts) (first_price 0 ts) (last_price 0 ts)
unfolding highest lowest first_price last_price
first_between [] = (omega arith, omega arith, omega arith, omega arith)
first_between (t ∷ ts) =
    let p = t.price in
    let us = t ∷ ts in (
      lowest_from p us,
      highest_from p us,
      lowest_last p p us (omega arith),
      last_highest p p us (omega arith),
    )

-- gone on from a day that traded before
pub further_between :
    (low high first last : ℕ) (ts : List Trade)
    → Between low high first last
    → Between (lowest low ts) (highest high ts) first (last_price last ts)
further_between low high first last ts b = (
  omega (arith, b.0, lowest_from low ts),
  omega (arith, b.1, highest_from high ts),
  lowest_last low last ts b.2,
  last_highest last high ts b.3,
)

-- ---- they go on

pub highest_append : (p : ℕ) (ts us : List Trade) → highest p (ts ++ us) ≡ highest (highest p ts) us
unfolding highest
highest_append p [] us = refl
highest_append p (t ∷ ts) us = highest_append (max p t.price) ts us

pub lowest_append : (p : ℕ) (ts us : List Trade) → lowest p (ts ++ us) ≡ lowest (lowest p ts) us
unfolding lowest
lowest_append p [] us = refl
lowest_append p (t ∷ ts) us = lowest_append (min p t.price) ts us
