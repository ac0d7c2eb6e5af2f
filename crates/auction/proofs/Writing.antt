-- The price list: the qualifying prices from the asked one on are a run, as many of it as there are places for are written, and
-- the loop that writes them at the front of a lent list.
use Prim.Native.Nat.{ℕ, zero, suc, ◌+◌, ◌-◌, ◌≤◌, ◌<◌, min, max, zero-le}
use mathlib.Core.Path.{◌≡◌, refl, sym, ap, ◌∙◌}
use mathlib.Core.Logic.{⊎_elim}
use mathlib.Core.List.{List, [], ◌∷◌, ◌++◌}
use native.Mathlib.Nat.{le_refl, zero-add}
use native.Mathlib.Numerals.{add-one}
use native.Mathlib.Decide.{dec_le}
use native.Mathlib.Omega.{arith}
use borrow.Author.Tests.{le-leb, lt-leb}
use lib.ListN.{length, get_or, take, drop, set, drop_of_length-le, length-set, get_or-eq_default}
use lib.Seq.{take_all, paste-suc, drop-length}
use lib.Dec.{leb}
use Rattle.model.specs.declared.Order.{Order}
use Rattle.model.specs.Lists.{keep, from}
use Rattle.model.specs.Auction.{qualifying}
use Rattle.model.specs.AuctionCalls.{due}
use Rattle.book.specs.Writing.{fitted}
use Rattle.auction.specs.declared.Span.{Span}
use Rattle.auction.specs.declared.Run.{Run}
use Rattle.auction.specs.Spans.{ends}
use Rattle.auction.specs.Fitting.{run_within}
use Rattle.auction.proofs.Runs.{run_length, run_at, keep_run}
use Rattle.auction.proofs.Spanning.{Spans, span_cases, span_law, spanned}

-- ---- a list at the front of another
-- the first i of l in front of what stands after the first i of d
abbrev front : List ℕ → List ℕ → ℕ → List ℕ
front l d i = take i l ++ drop i d

front_next : (l d : List ℕ) (i : ℕ) → i < length d → i < length l → set (front l d i) i (get_or l i 0) ≡ front l d (i + 1)
front_next l d i h k = rw (add-one) (simp zero-add at (paste-suc d 0 l i 0 (omega arith) k))

front_fitted : (l d : List ℕ) (i : ℕ) → i ≡ min (length d) (length l) → front l d i ≡ fitted l d
unfolding fitted
front_fitted l d i e = elim (dec_le (length l) (length d)) [
  | yes h ↦
      let z : i ≡ length l = omega arith in
      rw z (rw (take_all (length l) l (le_refl (length l)), take_all (length d) l h))
  | no h ↦
      let z : i ≡ length d = omega arith in
      rw z (rw (drop-length d, drop_of_length-le d {i = length l} (omega arith)))
]

-- ---- the loop
-- i prices from the first on are written
pub record Filled (first count : ℕ) (d : List ℕ) (out : List ℕ) (i : ℕ) : Type 0 where
  pub done : i ≤ count
  pub room : count ≤ length d
  pub long : length out ≡ length d
  pub same : out ≡ front (from first count) d i

module _ (first count : ℕ) (d : List ℕ) where
  pub filled_start : count ≤ length d → Filled first count d d 0
  filled_start h = record { done = zero-le; room = h; long = refl; same = refl }

  pub filled_next : {out : List ℕ} {i : ℕ} → Filled first count d out i → i < count → Filled first count d (set out i (first + i)) (i + 1)
  filled_next {out} {i} f h =
      let l = from first count in
      let v : first + i ≡ get_or l i 0 = sym (run_at first count i 0 h) in
      record {
        done = omega arith;
        room = f.room;
        long = length-set out i (first + i) ∙ f.long;
        same = rw (f.same, v) (front_next l d i (omega (arith, f.room)) (omega (arith, run_length first count)));
      }

  pub filled_end : {out : List ℕ} {i : ℕ} → Filled first count d out i → count ≤ i → out ≡ from first count ++ drop count d
  filled_end {out} {i} f h =
      let e : i ≡ count = omega (arith, f.done) in
      let t : take count (from first count) ≡ from first count = take_all count (from first count) (omega (arith, run_length first count)) in
      rw (e, t) at f.same

-- ---- a run within its places
module _ (first n places : ℕ) where
  within : {count next : ℕ} → 0 < n → count ≡ min places n → next ≡ get_or (from first n) places 0 → record { first = first; count = count; next = next } ≡ run_within places (from first n)
  unfolding run_within
  within {count} {next} h p q =
      let f : first ≡ get_or (from first n) 0 0 = sym (run_at first n 0 0 h ∙ omega arith) in
      let c : count ≡ min places (length (from first n)) = rw (run_length first n) p in
      λ k. record { first = f k; count = c k; next = q k }

  -- all of them
  pub within_whole : 0 < n → n ≤ places → record { first = first; count = n; next = 0 } ≡ run_within places (from first n)
  within_whole h k = within h (omega arith) (sym (get_or-eq_default (from first n) 0 (omega (arith, run_length first n))))

  -- no more than there are places
  pub within_front : places < n → record { first = first; count = places; next = first + places } ≡ run_within places (from first n)
  within_front k = within (omega arith) (omega arith) (sym (run_at first n places 0 k))

pub within_none : {ps : List ℕ} (places : ℕ) → ps ≡ [] → record { first = 0; count = 0; next = 0 } ≡ run_within places ps
unfolding run_within
within_none places e = rw e (λ k. record { first = 0; count = z k; next = 0 })
  where
    z : 0 ≡ min places 0
    z = omega arith

-- ---- the prices from the asked one on
no_run : (a b : ℕ) → from a 0 ≡ from b 0
unfolding from
no_run a b = refl

keep_from : (asked lo hi : ℕ) → lo ≤ asked → lo ≤ hi → keep (leb asked) (from lo (hi + 1 - lo)) ≡ from asked (hi + 1 - asked)
keep_from asked lo hi h k = elim (dec_le asked hi) [
  | yes l ↦
      keep_run (leb asked) lo (hi + 1 - lo) asked (hi + 1 - asked)
      (record {
        low = h;
        high = omega arith;
        before = λ p x y. lt-leb asked p y;
        inside = λ p x y. le-leb asked p x;
        after = λ p x y. absurd (omega arith);
      })
  | no l ↦
      let e : hi + 1 - asked ≡ 0 = omega arith in
      keep_run (leb asked) lo (hi + 1 - lo) (hi + 1) 0
      (record {
        low = omega arith;
        high = omega arith;
        before = λ p x y. lt-leb asked p (omega arith);
        inside = λ p x y. absurd (omega arith);
        after = λ p x y. absurd (omega arith);
      })
      ∙ no_run (hi + 1) asked
      ∙ ap (from asked) (sym e)
]

keep_whole : (asked lo hi : ℕ) → asked ≤ lo → lo ≤ hi → keep (leb asked) (from lo (hi + 1 - lo)) ≡ from lo (hi + 1 - lo)
keep_whole asked lo hi h k =
    keep_run (leb asked) lo (hi + 1 - lo) lo (hi + 1 - lo)
    (record {
      low = le_refl lo;
      high = le_refl (lo + (hi + 1 - lo));
      before = λ p x y. absurd (omega arith);
      inside = λ p x y. le-leb asked p (omega arith);
      after = λ p x y. absurd (omega arith);
    })

module _ (os : List Order) (asked : ℕ) {s : Span} (e : s ≡ ends (qualifying os)) where
  pub due_none : s.lo ≡ 0 → due asked os ≡ []
  unfolding due keep
  due_none z = ⊎_elim (λ k. rw k.2) (λ k. absurd (omega (arith, k.from_1))) (span_cases os e)

  pub due_all : (s.lo ≡ 0 → ⊥) → asked < s.lo → from s.lo (s.hi + 1 - s.lo) ≡ due asked os
  unfolding due
  due_all h k =
      let t = spanned os e h in
      rw t.list (sym (keep_whole asked s.lo s.hi (omega arith) t.some))

  pub due_from : (s.lo ≡ 0 → ⊥) → s.lo ≤ asked → from asked (s.hi + 1 - asked) ≡ due asked os
  unfolding due
  due_from h k = let t = spanned os e h in rw t.list (sym (keep_from asked s.lo s.hi k t.some))

  -- from the later of the two
  pub due_later : (s.lo ≡ 0 → ⊥) → {p : ℕ} → p ≡ max s.lo asked → from p (s.hi + 1 - p) ≡ due asked os
  due_later h {p} e = elim (dec_le s.lo asked) [
    | yes k ↦ let q : p ≡ asked = omega arith in rw q (due_from h k)
    | no k ↦ let q : p ≡ s.lo = omega arith in rw q (due_all h (omega arith))
  ]

  pub due_past : s.hi < asked → due asked os ≡ []
  unfolding from
  due_past k =
      ⊎_elim (λ t. due_none t.0)
      (λ t.
      let z : s.hi + 1 - asked ≡ 0 = omega arith in
      sym (due_from (λ n. omega (arith, t.from_1)) (omega (arith, t.some))) ∙ ap (from asked) z)
      (span_cases os e)

-- ---- they are a run
record IsRun (ps : List ℕ) : Type 0 where
  start : ℕ
  size : ℕ
  same : ps ≡ from start size
  small : start + size ≤ 1_000_000

no_prices : {ps : List ℕ} → ps ≡ [] → IsRun ps
unfolding from
no_prices e = record { start = 0; size = 0; same = e; small = omega arith }

span_run : (os : List Order) (asked : ℕ) {s : Span} → s ≡ ends (qualifying os) → Spans os s.lo s.hi → IsRun (due asked os)
span_run os asked {s} e t =
    let nz : s.lo ≡ 0 → ⊥ = λ z. omega (arith, t.from_1) in
    elim (dec_le asked s.hi) [
      | no k ↦ no_prices (due_past os asked e (omega arith))
      | yes k ↦ elim (dec_le s.lo asked) [
        | yes l ↦
            record {
              start = asked;
              size = s.hi + 1 - asked;
              same = sym (due_from os asked e nz l);
              small = omega (arith, t.to_999999);
            }
        | no l ↦
            record {
              start = s.lo;
              size = s.hi + 1 - s.lo;
              same = sym (due_all os asked e nz (omega arith));
              small = omega (arith, t.to_999999, t.some);
            }
      ]
    ]

due_run : (os : List Order) (asked : ℕ) → IsRun (due asked os)
due_run os asked = ⊎_elim (λ k. no_prices (due_none os asked refl k.0)) (λ k. span_run os asked refl k) (span_law os)

take_from : (k n a : ℕ) → take k (from a n) ≡ from a (min k n)
unfolding from
take_from zero n a = let z : min 0 n ≡ 0 = omega arith in rw z
take_from (suc k) zero a = let z : min (suc k) 0 ≡ 0 = omega arith in rw z
take_from (suc k) (suc n) a =
    let z : min (suc k) (suc n) ≡ suc (min k n) = omega arith in
    rw z (ap (λ (l : List ℕ). a ∷ l) (take_from k n (suc a)))

-- the prices that the run names, and none of them is past the last
record Named (ps : List ℕ) (r : Run) : Type 0 where
  prices : from r.first r.count ≡ take r.count ps
  small : r.first + r.count ≤ 1_000_000

named : (places a n : ℕ) → a + n ≤ 1_000_000 → Named (from a n) (run_within places (from a n))
unfolding run_within from
named places a zero h =
    let z : min places 0 ≡ 0 = omega arith in
    record { prices = rw z; small = omega arith }
named places a (suc n) h =
    let l : length (from a (suc n)) ≡ suc n = run_length a (suc n) in
    let c : ℕ = min places (length (from a (suc n))) in
    let m : min c (suc n) ≡ c = omega arith in
    record { prices = sym (take_from c (suc n) a ∙ ap (from a) m); small = omega arith }

module _ (os : List Order) (asked places : ℕ) {r : Run} (e : r ≡ run_within places (due asked os)) where
  due_named : Named (due asked os) r
  due_named = let d = due_run os asked in rw (e, d.same) (named places d.start d.size d.small)

  pub run_small : r.first + r.count ≤ 1_000_000
  run_small = due_named.small

  run_counts : r.count ≡ min places (length (due asked os))
  unfolding run_within
  run_counts = ap (λ (x : Run). x.count) e

  pub run_fits : r.count ≤ places
  run_fits = omega (arith, run_counts)

  pub run_prices : from r.first r.count ≡ take r.count (due asked os)
  run_prices = due_named.prices

-- at the front of a lent list
pub run_fitted :
    (os : List Order) (asked : ℕ) (lent : List ℕ) {r : Run}
    → r ≡ run_within (length lent) (due asked os)
    → from r.first r.count ++ drop r.count lent ≡ fitted (due asked os) lent
run_fitted os asked lent {r} e =
    ap (λ (l : List ℕ). l ++ drop r.count lent) (run_prices os asked (length lent) e)
    ∙ front_fitted (due asked os) lent r.count (run_counts os asked (length lent) e)
