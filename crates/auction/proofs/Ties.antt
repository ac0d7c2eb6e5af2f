-- The two tie rules on the qualifying prices: those of smallest difference lie together, and one of them is nearest.
use Rattle.std.specs.Prelude.{if◌then◌else◌}
use Prim.Native.Nat.{ℕ, ◌+◌, ◌-◌, ◌≤◌, ◌<◌, min}
use mathlib.Core.Path.{◌≡◌, refl, sym, ap, ◌∙◌}
use mathlib.Core.Logic.{◌⊎◌, inl, inr, ⊎_elim}
use mathlib.Core.List.{List, [], ◌∷◌}
use native.Mathlib.Nat.{le_refl}
use native.Mathlib.Decide.{dec_lt, dec_le}
use native.Mathlib.Omega.{arith}
use borrow.Author.Tests.{lt-ltb, le-ltb}
use lib.ListN.{get_or}
use lib.Dec.{ltb}
use Rattle.model.specs.declared.Order.{Order}
use Rattle.model.specs.Lists.{at_least, from}
use Rattle.model.specs.Auction.{distance, demand, supply, qualifying, least_difference, left_by}
use Rattle.auction.specs.declared.Span.{Span}
use Rattle.auction.specs.Spans.{ends, gap, flatter, beside_of, nearest_in}
use Rattle.auction.proofs.Runs.{Least, least_run}
use Rattle.auction.proofs.Conditions.{inner_level}
use Rattle.auction.proofs.Spanning.{Spans, span_cases}

-- ---- where a function that is 0 strictly between lo and hi is least
module _ (g : ℕ → ℕ) (lo hi m : ℕ) where
  abbrev Low : ℕ → Type 0
  Low low = ((low ≡ lo) × (g lo ≡ m)) ⊎ ((low ≡ lo + 1) × (m < g lo))

  abbrev High : ℕ → Type 0
  High high = ((high ≡ hi) × (g hi ≡ m)) ⊎ ((high + 1 ≡ hi) × (m < g hi))

  least_ends :
      {low high : ℕ}
      → ((q : ℕ) → lo < q → q < hi → g q ≡ m)
      → Low low
      → High high
      → low ≤ high
      → g low ≡ m
      → Least g lo hi low high
  least_ends {low} {high} inner l h some e =
      record {
        from_lo = ⊎_elim (λ k. omega arith) (λ k. omega arith) l;
        some = some;
        to_hi = ⊎_elim (λ k. omega arith) (λ k. omega arith) h;
        same = λ q a b. at q a b ∙ sym e;
        below = λ q a b. ⊎_elim (λ k. absurd (omega arith)) (λ k. let z : g q ≡ g lo = ap g (omega arith) in omega arith) l;
        above = λ q a b. ⊎_elim (λ k. absurd (omega arith)) (λ k. let z : g q ≡ g hi = ap g (omega arith) in omega arith) h;
      }
    where
      at : (q : ℕ) → low ≤ q → q ≤ high → g q ≡ m
      at q a b = elim (dec_le q lo) [
        | yes k ↦ ⊎_elim (λ z. let f : q ≡ lo = omega arith in ap g f ∙ z.1) (λ z. absurd (omega arith)) l
        | no k ↦ elim (dec_le hi q) [
          | yes k' ↦ ⊎_elim (λ z. let f : q ≡ hi = omega arith in ap g f ∙ z.1) (λ z. absurd (omega arith)) h
          | no k' ↦ inner q (omega arith) (omega arith)
        ]
      ]

  low_by_test :
      (g (lo + 1) < g lo → m < g lo)
      → (g lo ≤ g (lo + 1) → g lo ≡ m)
      → Low (if ltb (g (lo + 1)) (g lo) then lo + 1 else lo)
  low_by_test move stay = elim (dec_lt (g (lo + 1)) (g lo)) [
    | yes h ↦ rw (lt-ltb (g (lo + 1)) (g lo) h) (inr (refl, move h))
    | no h ↦ let k : g lo ≤ g (lo + 1) = omega arith in rw (le-ltb (g (lo + 1)) (g lo) k) (inl (refl, stay k))
  ]

  high_by_test :
      lo < hi
      → (g (hi - 1) < g hi → m < g hi)
      → (g hi ≤ g (hi - 1) → g hi ≡ m)
      → High (if ltb (g (hi - 1)) (g hi) then hi - 1 else hi)
  high_by_test l move stay = elim (dec_lt (g (hi - 1)) (g hi)) [
    | yes h ↦ rw (lt-ltb (g (hi - 1)) (g hi) h) (inr (omega arith, move h))
    | no h ↦ let k : g hi ≤ g (hi - 1) = omega arith in rw (le-ltb (g (hi - 1)) (g hi) k) (inl (refl, stay k))
  ]

module _ (g : ℕ → ℕ) (lo hi : ℕ) (ordered : lo < hi) (inner : (q : ℕ) → lo < q → q < hi → g q ≡ 0) where
  abbrev low_of : ℕ
  low_of = if ltb (g (lo + 1)) (g lo) then lo + 1 else lo

  abbrev high_of : ℕ
  high_of = if ltb (g (hi - 1)) (g hi) then hi - 1 else hi

  -- prices between the two: the least is 0
  wide : lo + 1 < hi → Least g lo hi low_of high_of
  wide h =
      let a : g (lo + 1) ≡ 0 = inner (lo + 1) (omega arith) h in
      let b : g (hi - 1) ≡ 0 = inner (hi - 1) (omega arith) (omega arith) in
      let l : Low g lo hi 0 low_of = low_by_test g lo hi 0 (λ k. omega arith) (λ k. omega arith) in
      let r : High g lo hi 0 high_of = high_by_test g lo hi 0 ordered (λ k. omega arith) (λ k. omega arith) in
      least_ends g lo hi 0 inner l r
      (⊎_elim (λ x. ⊎_elim (λ y. omega arith) (λ y. omega arith) r) (λ x. ⊎_elim (λ y. omega arith) (λ y. omega arith) r) l)
      (⊎_elim (λ x. ap g x.0 ∙ x.1) (λ x. ap g x.0 ∙ a) l)

  -- no price between them: the least is the smaller of the two
  narrow : lo + 1 ≡ hi → Least g lo hi low_of high_of
  narrow e =
      let m : ℕ = min (g lo) (g hi) in
      let a : g (lo + 1) ≡ g hi = ap g e in
      let b : g (hi - 1) ≡ g lo = ap g (omega arith) in
      let l : Low g lo hi m low_of = low_by_test g lo hi m (λ k. omega arith) (λ k. omega arith) in
      let r : High g lo hi m high_of = high_by_test g lo hi m ordered (λ k. omega arith) (λ k. omega arith) in
      least_ends g lo hi m (λ q x y. absurd (omega arith)) l r
      (⊎_elim (λ x. ⊎_elim (λ y. omega arith) (λ y. omega arith) r) (λ x. ⊎_elim (λ y. omega arith) (λ y. absurd (omega arith)) r) l)
      (⊎_elim (λ x. ap g x.0 ∙ x.1) (λ x. ⊎_elim (λ y. ap g x.0 ∙ a ∙ y.1) (λ y. absurd (omega arith)) r) l)

  pub least_between : Least g lo hi low_of high_of
  least_between = elim (dec_lt (lo + 1) hi) [ yes h ↦ wide h | no h ↦ narrow (omega arith) ]

-- ---- the smallest difference
gap_level : (os : List Order) (p : ℕ) → demand os p ≡ supply os p → gap os p ≡ 0
unfolding gap distance
gap_level os p e = omega arith

pub least_alone : (g : ℕ → ℕ) (p : ℕ) → Least g p p p p
least_alone g p =
    record {
      from_lo = le_refl p;
      some = le_refl p;
      to_hi = le_refl p;
      same = λ q h k. ap g (omega arith);
      below = λ q h k. absurd (omega arith);
      above = λ q h k. absurd (omega arith);
    }

-- strictly between the ends it is 0
between_level : (os : List Order) {lo hi : ℕ} → Spans os lo hi → (q : ℕ) → lo < q → q < hi → gap os q ≡ 0
between_level os {lo} {hi} s q k l =
    gap_level os q (inner_level os (s.each lo (le_refl lo) s.some) (s.each hi s.some (le_refl hi)) k l)

flattest :
    (os : List Order) {lo hi : ℕ}
    → Spans os lo hi
    → lo < hi
    → Least (gap os) lo hi (flatter os lo (lo + 1)) (flatter os hi (hi - 1))
unfolding flatter
flattest os {lo} {hi} s h = least_between (gap os) lo hi h (between_level os s)

-- ---- the nearest
nearest_is :
    (ref a b : ℕ)
    → ((nearest_in ref a b ≡ a) × (ref < a)) ⊎ (((nearest_in ref a b ≡ b) × (a ≤ ref) × (b < ref)) ⊎ ((nearest_in ref a b ≡ ref) × (a ≤ ref) × (ref ≤ b)))
unfolding nearest_in
nearest_is ref a b = elim (dec_lt ref a) [
  | yes k ↦ inl (rw (lt-ltb ref a k), k)
  | no k ↦ elim (dec_lt b ref) [
    | yes l ↦ inr (inl (rw (le-ltb ref a (omega arith), lt-ltb b ref l), omega arith, l))
    | no l ↦ inr (inr (rw (le-ltb ref a (omega arith), le-ltb b ref (omega arith)), omega arith, omega arith))
  ]
]

nearest_point :
    (ref a b n : ℕ)
    → a ≤ b
    → ((n ≡ a) × (ref < a)) ⊎ (((n ≡ b) × (a ≤ ref) × (b < ref)) ⊎ ((n ≡ ref) × (a ≤ ref) × (ref ≤ b)))
    → Least (λ p. distance p ref) a b n n
unfolding distance
nearest_point ref a b n h (inl k) =
    record {
      from_lo = omega arith;
      some = le_refl n;
      to_hi = omega arith;
      same = λ q x y. let e : q ≡ n = omega arith in rw e;
      below = λ q x y. absurd (omega arith);
      above = λ q x y. omega arith;
    }
nearest_point ref a b n h (inr (inl k)) =
    record {
      from_lo = omega arith;
      some = le_refl n;
      to_hi = omega arith;
      same = λ q x y. let e : q ≡ n = omega arith in rw e;
      below = λ q x y. omega arith;
      above = λ q x y. absurd (omega arith);
    }
nearest_point ref a b n h (inr (inr k)) =
    record {
      from_lo = omega arith;
      some = le_refl n;
      to_hi = omega arith;
      same = λ q x y. let e : q ≡ n = omega arith in rw e;
      below = λ q x y. omega arith;
      above = λ q x y. omega arith;
    }

pub nearest_least : (ref a b : ℕ) → a ≤ b → Least (λ p. distance p ref) a b (nearest_in ref a b) (nearest_in ref a b)
nearest_least ref a b h = nearest_point ref a b (nearest_in ref a b) h (nearest_is ref a b)

-- of one price it is that price
pub nearest_same : (ref p : ℕ) → nearest_in ref p p ≡ p
nearest_same ref p = let l = nearest_least ref p p (le_refl p) in omega (arith, l.from_lo, l.to_hi)

-- ---- what is left of the qualifying prices
one_run : (n : ℕ) → from n 1 ≡ n ∷ []
unfolding from
one_run n = refl

none_least : (g : ℕ → ℕ) → at_least g [] ≡ []
unfolding at_least
none_least g = refl

pub none_flattest : (os : List Order) → qualifying os ≡ [] → least_difference os ≡ []
unfolding least_difference
none_flattest os e = rw e (none_least (λ p. distance (demand os p) (supply os p)))

pub none_left : (os : List Order) (ref : ℕ) → qualifying os ≡ [] → left_by os ref ≡ []
unfolding left_by
none_left os ref e = rw (none_flattest os e) (none_least (λ p. distance p ref))

module _ (os : List Order) {lo hi : ℕ} (s : Spans os lo hi) where
  -- the prices of smallest difference lie from one of them to another
  pub record Flattest (low high : ℕ) : Type 0 where
    pub least : Least (gap os) lo hi low high
    pub list : least_difference os ≡ from low (high + 1 - low)

  to_flattest : {low high : ℕ} → Least (gap os) lo hi low high → Flattest low high
  unfolding least_difference gap
  to_flattest {low} {high} l = record { least = l; list = rw s.list (least_run (gap os) lo hi low high l) }

  pub flattest_one : lo ≡ hi → Flattest lo lo
  flattest_one e = to_flattest (rw (← e) (least_alone (gap os) lo))

  pub flattest_many : lo < hi → Flattest (flatter os lo (lo + 1)) (flatter os hi (hi - 1))
  flattest_many h = to_flattest (flattest os s h)

  pub left_is : (ref : ℕ) {low high : ℕ} → Flattest low high → left_by os ref ≡ nearest_in ref low high ∷ []
  unfolding left_by
  left_is ref {low} {high} f =
      let n = nearest_in ref low high in
      rw f.list
      (least_run (λ p. distance p ref) low high n n (nearest_least ref low high f.least.some) ∙ one n)
    where
      one : (n : ℕ) → from n (n + 1 - n) ≡ n ∷ []
      one n = let e : n + 1 - n ≡ 1 = omega arith in ap (from n) e ∙ one_run n

  -- where some price qualifies there are such
  pub some_flattest : (low : ℕ) × (high : ℕ) × Flattest low high
  some_flattest = elim (dec_lt lo hi) [
    | yes h ↦ (flatter os lo (lo + 1), flatter os hi (hi - 1), flattest_many h)
    | no h ↦ (lo, lo, flattest_one (omega (arith, s.some)))
  ]

  -- and the price that is left lies between the ends
  left_inside : (ref : ℕ) → (lo ≤ get_or (left_by os ref) 0 0) × (get_or (left_by os ref) 0 0 ≤ hi)
  left_inside ref =
      let f = some_flattest in
      let l = f.2.least in
      let n = nearest_least ref f.0 f.1 l.some in
      rw (left_is ref f.2) (omega (arith, l.from_lo, n.from_lo), omega (arith, n.to_hi, l.to_hi))

-- ---- what the code answers
-- a span of one price, or none
pub price_alone :
    (os : List Order) (ref : ℕ) {s : Span}
    → s ≡ ends (qualifying os)
    → s.lo ≡ s.hi
    → s.lo ≡ get_or (left_by os ref) 0 0
price_alone os ref {s} e same =
    ⊎_elim
    (λ k. rw (none_left os ref k.2) k.0)
    (λ k. rw (left_is os k ref (flattest_one os k same)) (sym (nearest_same ref s.lo)))
    (span_cases os e)

-- a price that is left lies in the span
pub price_inside :
    (os : List Order) (ref : ℕ) {s : Span} {p : ℕ}
    → s ≡ ends (qualifying os)
    → p ≡ get_or (left_by os ref) 0 0
    → (p ≡ 0 → ⊥)
    → (s.lo ≤ p) × (p ≤ s.hi)
price_inside os ref {s} {p} e f n =
    ⊎_elim
    (λ k. absurd (n (f ∙ rw (none_left os ref k.2))))
    (λ k. rw f (left_inside os k ref))
    (span_cases os e)

-- several prices
pub several :
    (os : List Order) {s : Span}
    → s ≡ ends (qualifying os)
    → (s.lo ≡ s.hi → ⊥)
    → Spans os s.lo s.hi
several os e apart = ⊎_elim (λ k. absurd (apart (k.0 ∙ sym k.1))) (λ k. k) (span_cases os e)

pub price_among :
    (os : List Order) (ref : ℕ) {lo hi low high r : ℕ}
    → Spans os lo hi
    → lo < hi
    → low ≡ flatter os lo (lo + 1)
    → high ≡ flatter os hi (hi - 1)
    → r ≡ nearest_in ref low high
    → r ≡ get_or (left_by os ref) 0 0
price_among os ref k l hl hh hr = rw (left_is os k ref (flattest_many os k l)) (rw (hr, hl, hh))

-- beside an end the difference is 0 where a price lies between the ends, else that of the other end
module _ (os : List Order) {lo hi : ℕ} (k : Spans os lo hi) (l : lo < hi) where
  pub above_low : gap os (lo + 1) ≡ beside_of lo hi (gap os hi)
  unfolding beside_of
  above_low = elim (dec_lt (lo + 1) hi) [
    | yes h ↦ rw (lt-ltb (lo + 1) hi h) (between_level os k (lo + 1) (omega arith) h)
    | no h ↦ let e : lo + 1 ≡ hi = omega arith in rw (le-ltb (lo + 1) hi (omega arith)) (ap (gap os) e)
  ]

  pub below_high : gap os (hi - 1) ≡ beside_of lo hi (gap os lo)
  unfolding beside_of
  below_high = elim (dec_lt (lo + 1) hi) [
    | yes h ↦ rw (lt-ltb (lo + 1) hi h) (between_level os k (hi - 1) (omega arith) (omega arith))
    | no h ↦ let e : hi - 1 ≡ lo = omega arith in rw (le-ltb (lo + 1) hi (omega arith)) (ap (gap os) e)
  ]
