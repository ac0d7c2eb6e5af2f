-- Consecutive numbers: their length and places, what a test keeps of them, and where a function is least on them.
use Prim.Native.Nat.{ℕ, zero, suc, ◌+◌, ◌-◌, ◌≤◌, ◌<◌}
use mathlib.Core.Path.{◌≡◌, refl, sym, ap, ap₂, ◌∙◌}
use mathlib.Core.Bool.{Bool, true, false}
use mathlib.Core.List.{[], ◌∷◌, ◌++◌, append-nil}
use native.Mathlib.Nat.{le_refl, not-suc-le-zero, le_of_suc-le-suc}
use native.Mathlib.Decide.{dec_lt}
use native.Mathlib.Omega.{arith}
use borrow.Author.Tests.{eq-eqb, ne_eqb}
use lib.ListN.{length, get_or}
use lib.Dec.{eqb}
use Rattle.model.specs.Lists.{keep, all, any, among, least, at_least, from}
use Rattle.book.proofs.Lists.{keep_append}
use Rattle.model.proofs.Bools.{not_both, and_left, and_right, and_both}

-- ---- length and places
pub run_length : (a n : ℕ) → length (from a n) ≡ n
unfolding from
run_length a zero = refl
run_length a (suc n) = ap suc (run_length (suc a) n)

pub run_at : (a n i d : ℕ) → i < n → get_or (from a n) i d ≡ a + i
unfolding from
run_at a zero i d h = absurd (not-suc-le-zero h)
run_at a (suc n) zero d h = omega arith
run_at a (suc n) (suc i) d h = omega (arith, run_at (suc a) n i d (le_of_suc-le-suc h))

run_append : (a m n : ℕ) → from a (m + n) ≡ from a m ++ from (a + m) n
unfolding from
run_append a zero n = let e : a + 0 ≡ a = omega arith in let f : 0 + n ≡ n = omega arith in rw (e, f)
run_append a (suc m) n =
    let e : a + suc m ≡ suc a + m = omega arith in
    let f : suc m + n ≡ suc (m + n) = omega arith in
    rw (e, f) (ap (λ l. a ∷ l) (run_append (suc a) m n))

-- ---- what a test keeps
keep_all : (f : ℕ → Bool) (a n : ℕ) → ((p : ℕ) → a ≤ p → p < a + n → f p ≡ true) → keep f (from a n) ≡ from a n
unfolding keep from
keep_all f a zero h = refl
keep_all f a (suc n) h =
    rw (h a (le_refl a) (omega arith)) (ap (λ l. a ∷ l) (keep_all f (suc a) n (λ p k l. h p (omega arith) (omega arith))))

keep_none : (f : ℕ → Bool) (a n : ℕ) → ((p : ℕ) → a ≤ p → p < a + n → f p ≡ false) → keep f (from a n) ≡ []
unfolding keep from
keep_none f a zero h = refl
keep_none f a (suc n) h =
    rw (h a (le_refl a) (omega arith)) (keep_none f (suc a) n (λ p k l. h p (omega arith) (omega arith)))

-- of the n numbers from a on, the test holds of exactly the k from lo on
pub record Holds (f : ℕ → Bool) (a n lo k : ℕ) : Type 0 where
  pub low : a ≤ lo
  pub high : lo + k ≤ a + n
  pub before : (p : ℕ) → a ≤ p → p < lo → f p ≡ false
  pub inside : (p : ℕ) → lo ≤ p → p < lo + k → f p ≡ true
  pub after : (p : ℕ) → lo + k ≤ p → p < a + n → f p ≡ false

pub keep_run : (f : ℕ → Bool) (a n lo k : ℕ) → Holds f a n lo k → keep f (from a n) ≡ from lo k
keep_run f a n lo k h =
    let m : ℕ = lo - a in
    let r : ℕ = a + n - (lo + k) in
    let e : n ≡ m + (k + r) = omega (arith, h.low, h.high) in
    let g : a + m ≡ lo = omega (arith, h.low) in
    let none = keep_none f a m (λ p l l'. h.before p l (omega arith)) in
    let more = keep_all f lo k h.inside in
    let rest = keep_none f (lo + k) r (λ p l l'. h.after p l (omega (arith, h.high))) in
    ap (λ x. keep f (from a x)) e
    ∙ ap (keep f) (run_append a m (k + r))
    ∙ keep_append f (from a m) (from (a + m) (k + r))
    ∙ ap₂ ◌++◌ none
    (ap (λ x. keep f (from x (k + r))) g
    ∙ ap (keep f) (run_append lo k r)
    ∙ keep_append f (from lo k) (from (lo + k) r)
    ∙ ap₂ ◌++◌ more rest
    ∙ append-nil (from lo k))

-- ---- tests of all and of some
pub all_run : (f : ℕ → Bool) (a n : ℕ) → ((p : ℕ) → a ≤ p → p < a + n → f p ≡ true) → all f (from a n) ≡ true
unfolding all from
all_run f a zero h = refl
all_run f a (suc n) h =
    and_both (h a (le_refl a) (omega arith)) (all_run f (suc a) n (λ p k l. h p (omega arith) (omega arith)))

pub run_all : (f : ℕ → Bool) (a n : ℕ) → all f (from a n) ≡ true → (p : ℕ) → a ≤ p → p < a + n → f p ≡ true
unfolding all from
run_all f a zero e p h k = absurd (omega arith)
run_all f a (suc n) e p h k = elim (dec_lt a p) [
  | yes l ↦ run_all f (suc a) n (and_right (f a) (all f (from (suc a) n)) e) p l (omega arith)
  | no l ↦ let z : p ≡ a = omega arith in ap f z ∙ and_left (f a) (all f (from (suc a) n)) e
]

pub run_has : (a n p : ℕ) → a ≤ p → p < a + n → among (from a n) p ≡ true
unfolding among any from
run_has a zero p h k = absurd (omega arith)
run_has a (suc n) p h k = elim (dec_lt a p) [
  | yes l ↦ rw (ne_eqb p a (omega arith)) (run_has (suc a) n p l (omega arith))
  | no l ↦ rw (eq-eqb p a (omega arith))
]

pub has_run : (a n p : ℕ) → among (from a n) p ≡ true → (a ≤ p) × (p < a + n)
unfolding among any from
has_run a zero p e = absurd (not_both e refl)
has_run a (suc n) p e = elim (dec_lt a p) [
  | yes l ↦
      let r = has_run (suc a) n p (rw (ne_eqb p a (omega arith)) at e) in
      (omega arith, omega arith)
  | no l ↦ elim (dec_lt p a) [
    | yes k ↦ let r = has_run (suc a) n p (rw (ne_eqb p a (omega arith)) at e) in absurd (omega arith)
    | no k ↦ (omega arith, omega arith)
  ]
]

-- ---- where a function is least
-- on the numbers lo to hi, g is least at exactly those from low to high
pub record Least (g : ℕ → ℕ) (lo hi low high : ℕ) : Type 0 where
  pub from_lo : lo ≤ low
  pub some : low ≤ high
  pub to_hi : high ≤ hi
  pub same : (q : ℕ) → low ≤ q → q ≤ high → g q ≡ g low
  pub below : (q : ℕ) → lo ≤ q → q < low → g low < g q
  pub above : (q : ℕ) → high < q → q ≤ hi → g low < g q

least_most : (g : ℕ → ℕ) (a n p : ℕ) → a ≤ p → p ≤ a + n → least g a (from (suc a) n) ≤ g p
unfolding least from
least_most g a zero p h k = let e : p ≡ a = omega arith in rw e (le_refl (g a))
least_most g a (suc n) p h k = elim (dec_lt a p) [
  | yes l ↦ let r = least_most g (suc a) n p l (omega arith) in omega arith
  | no l ↦ let e : p ≡ a = omega arith in let f : g p ≡ g a = ap g e in omega arith
]

least_least : (g : ℕ → ℕ) (a n m : ℕ) → ((p : ℕ) → a ≤ p → p ≤ a + n → m ≤ g p) → m ≤ least g a (from (suc a) n)
unfolding least from
least_least g a zero m h = h a (le_refl a) (omega arith)
least_least g a (suc n) m h =
    omega
    (arith, h a (le_refl a) (omega arith), least_least g (suc a) n m (λ p k l. h p (omega arith) (omega arith)))

least_value : (g : ℕ → ℕ) (lo n low high : ℕ) → Least g lo (lo + n) low high → least g lo (from (suc lo) n) ≡ g low
least_value g lo n low high s =
    let a = least_most g lo n low s.from_lo (omega (arith, s.some, s.to_hi)) in
    let b = least_least g lo n (g low) at_least_lem in
    omega arith
  where
    at_least_lem : (p : ℕ) → lo ≤ p → p ≤ lo + n → g low ≤ g p
    at_least_lem p h k = elim (dec_lt p low) [
      | yes l ↦ omega (arith, s.below p h l)
      | no l ↦ elim (dec_lt high p) [ yes l' ↦ omega (arith, s.above p l' k) | no l' ↦ omega (arith, s.same p (omega arith) (omega arith)) ]
    ]

at_least_from :
    (g : ℕ → ℕ) (lo n low high m : ℕ)
    → least g lo (from (suc lo) n) ≡ m
    → m ≡ g low
    → Least g lo (lo + n) low high
    → keep (λ y. eqb (g y) m) (from lo (suc n)) ≡ from low (high + 1 - low)
at_least_from g lo n low high m e f s =
    keep_run (λ y. eqb (g y) m) lo (suc n) low (high + 1 - low)
    (record {
      low = s.from_lo;
      high = omega (arith, s.some, s.to_hi);
      before = λ p h k. ne_eqb (g p) m (omega (arith, s.below p h k));
      inside = λ p h k. eq-eqb (g p) m (s.same p h (omega (arith, s.some)) ∙ sym f);
      after = λ p h k. ne_eqb (g p) m (omega (arith, s.above p (omega (arith, s.some)) (omega arith)));
    })

pub least_run :
    (g : ℕ → ℕ) (lo hi low high : ℕ)
    → Least g lo hi low high
    → at_least g (from lo (hi + 1 - lo)) ≡ from low (high + 1 - low)
unfolding at_least from
least_run g lo hi low high s =
    let h : lo ≤ hi = omega (arith, s.from_lo, s.some, s.to_hi) in
    let e : hi + 1 - lo ≡ suc (hi - lo) = omega arith in
    let f : hi ≡ lo + (hi - lo) = omega arith in
    rw e (by_length (hi - lo) (rw f at s))
  where
    by_length : (n : ℕ) → Least g lo (lo + n) low high → at_least g (from lo (suc n)) ≡ from low (high + 1 - low)
    by_length n t = at_least_from g lo n low high (least g lo (from (suc lo) n)) refl (least_value g lo n low high t) t
