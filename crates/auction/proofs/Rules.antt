-- The price rule whole: the list names the prices that qualify, it is empty exactly when no buy reaches a sell, and
-- otherwise exactly one price is left.
use Rattle.std.specs.Prelude.{if◌then◌else◌}
use Prim.Native.Nat.{ℕ, ◌+◌, ◌<◌, ◌≤◌}
use mathlib.Core.Path.{◌≡◌, refl, ap, ◌∙◌}
use mathlib.Core.Logic.{◌⊎◌, inl, inr, ⊎_elim, ◌↔◌}
use mathlib.Core.Bool.{Bool, true, false, ◌||◌}
use mathlib.Core.List.{List, [], ◌∷◌}
use native.Mathlib.Nat.{le_refl, le_trans}
use native.Mathlib.Omega.{arith}
use borrow.Author.Tests.{eqb-true, leb-true, le-leb}
use lib.ListN.{length, get_or}
use lib.Dec.{leb, eqb}
use Rattle.model.specs.declared.Order.{Order}
use Rattle.model.specs.declared.Day.{Day}
use Rattle.model.specs.Lists.{keep, any, among, from}
use Rattle.model.specs.Figures.{reference}
use Rattle.model.specs.Auction.{prices, qualifies, qualifying, least_difference, left_by, auction_price}
use Rattle.model.specs.Sound.{crosses}
use Rattle.model.specs.AuctionCalls.{due}
use Rattle.book.specs.Standing.{Standing}
use Rattle.auction.specs.Spans.{turn_of, nearest_in}
use Rattle.model.specs.Words.{Rising, NoGap, Qualifies}
use Rattle.auction.specs.Rule.{PriceRule}
use Rattle.model.proofs.Bools.{true_or_false, not_both, not_true_false}
use Rattle.auction.proofs.Runs.{run_length, run_at, run_has, has_run}
use Rattle.auction.proofs.Conditions.{test_told, told_test}
use Rattle.auction.proofs.Spanning.{Spans, span_law}
use Rattle.auction.proofs.Ties.{some_flattest, left_is, none_left, nearest_least, none_flattest}
use Rattle.auction.proofs.Crossing.{crosses_told, told_crosses, cross_qualifies, qualifies_cross}

-- ---- what a test keeps of a list
kept_has : (f : ℕ → Bool) (xs : List ℕ) (p : ℕ) → f p ≡ true → among xs p ≡ true → among (keep f xs) p ≡ true
unfolding keep among any
kept_has f [] p h e = e
kept_has f (x ∷ xs) p h e = go (eqb p x) (f x) refl refl (kept_has f xs p h)
  where
    go :
        (a b : Bool)
        → eqb p x ≡ a
        → f x ≡ b
        → (any (eqb p) xs ≡ true → any (eqb p) (keep f xs) ≡ true)
        → any (eqb p) (if b then x ∷ keep f xs else keep f xs) ≡ true
    go true true ea eb more = rw ea
    go true false ea eb more = absurd (not_both (rw (eqb-true p x ea) at h) eb)
    go false true ea eb more = rw ea (more (rw ea at e))
    go false false ea eb more = more (rw ea at e)

has_kept : (f : ℕ → Bool) (xs : List ℕ) (p : ℕ) → among (keep f xs) p ≡ true → (f p ≡ true) × (among xs p ≡ true)
unfolding keep among any
has_kept f [] p e = absurd (not_both e refl)
has_kept f (x ∷ xs) p e = go (eqb p x) (f x) refl refl e (has_kept f xs p)
  where
    go :
        (a b : Bool)
        → eqb p x ≡ a
        → f x ≡ b
        → any (eqb p) (if b then x ∷ keep f xs else keep f xs) ≡ true
        → (any (eqb p) (keep f xs) ≡ true → (f p ≡ true) × (any (eqb p) xs ≡ true))
        → (f p ≡ true) × ((eqb p x || any (eqb p) xs) ≡ true)
    go true true ea eb t more = (ap f (eqb-true p x ea) ∙ eb, rw ea)
    go true false ea eb t more = let r = more t in (r.0, rw ea)
    go false true ea eb t more = let r = more (rw ea at t) in (r.0, rw ea r.1)
    go false false ea eb t more = let r = more t in (r.0, rw ea r.1)

-- ---- a price is in the list exactly when it qualifies
pub listed_qualifies : (os : List Order) {p : ℕ} → among (qualifying os) p ≡ true → Qualifies os p
unfolding qualifying prices
listed_qualifies os {p} e =
    let k = has_kept (qualifies os) (from 1 999_999) p e in
    let r = has_run 1 999_999 p k.1 in
    test_told os (record { low = r.0; high = omega (arith, r.1) }) k.0

pub qualifies_listed : (os : List Order) {p : ℕ} → Qualifies os p → among (qualifying os) p ≡ true
unfolding qualifying prices
qualifies_listed os {p} k =
    kept_has (qualifies os) (from 1 999_999) p (told_test os k)
    (run_has 1 999_999 p k.price.low (omega (arith, k.price.high)))

-- ---- the list from an asked price has those that are not below it
pub due_names : (os : List Order) (asked p : ℕ) → (among (due asked os) p ≡ true) ↔ (Qualifies os p × (asked ≤ p))
unfolding due
due_names os asked p = (
  λ e.
      let k = has_kept (leb asked) (qualifying os) p e in
      (listed_qualifies os k.1, leb-true asked p k.0),
  λ k. kept_has (leb asked) (qualifying os) p (le-leb asked p k.1) (qualifies_listed os k.0),
)

-- ---- consecutive numbers rise and have no gap
empty_no_gap : {ps : List ℕ} → ps ≡ [] → NoGap ps
unfolding among any
empty_no_gap e p q r a b h k = absurd (not_both (rw e at a) refl)

run_no_gap : (a n : ℕ) {ps : List ℕ} → ps ≡ from a n → NoGap ps
run_no_gap a n e p q r x y h k =
    let f = has_run a n p (rw e at x) in
    let g = has_run a n r (rw e at y) in
    rw e (run_has a n q (omega arith) (omega arith))

empty_rises : {ps : List ℕ} → ps ≡ [] → Rising ps
empty_rises e i j h k = absurd (omega (arith, ap length e))

run_rises : (a n : ℕ) {ps : List ℕ} → ps ≡ from a n → Rising ps
run_rises a n {ps} e i j h k =
    let l : j < n = omega (arith, ap length e, run_length a n) in
    let x : get_or ps i 0 ≡ a + i = ap (λ l. get_or l i 0) e ∙ run_at a n i 0 (omega arith) in
    let y : get_or ps j 0 ≡ a + j = ap (λ l. get_or l j 0) e ∙ run_at a n j 0 l in
    omega arith

module _ (os : List Order) where
  pub qualifying_rises : Rising (qualifying os)
  qualifying_rises = ⊎_elim (λ k. empty_rises k.2) (λ k. run_rises _ _ k.list) (span_law os)

  pub qualifying_no_gap : NoGap (qualifying os)
  qualifying_no_gap = ⊎_elim (λ k. empty_no_gap k.2) (λ k. run_no_gap _ _ k.list) (span_law os)

  pub least_no_gap : NoGap (least_difference os)
  least_no_gap =
      ⊎_elim
      (λ k. empty_no_gap (none_flattest os k.2))
      (λ k. let f = some_flattest os k in run_no_gap _ _ f.2.list)
      (span_law os)

  -- the one that is left of them
  left_one : {lo hi : ℕ} → Spans os lo hi → (ref : ℕ) → (p : ℕ) × (left_by os ref ≡ p ∷ []) × Qualifies os p
  left_one {lo} {hi} k ref =
      let f = some_flattest os k in
      let low = f.0 in
      let high = f.1 in
      let l = f.2.least in
      let n = nearest_least ref low high l.some in (
        nearest_in ref low high,
        left_is os k ref f.2,
        k.each (nearest_in ref low high) (le_trans l.from_lo n.from_lo) (le_trans n.to_hi l.to_hi),
      )

one_among : {ps : List ℕ} {p q : ℕ} → ps ≡ p ∷ [] → among ps q ≡ true → q ≡ p
unfolding among any
one_among {ps} {p} {q} e h = go (eqb q p) refl (rw e at h)
  where
    go : (b : Bool) → eqb q p ≡ b → b || false ≡ true → q ≡ p
    go true x y = eqb-true q p x
    go false x y = absurd (not_both y refl)

none_among : {ps : List ℕ} (q : ℕ) → ps ≡ [] → among ps q ≡ true → ⊥
unfolding among any
none_among q e h = not_both (rw e at h) refl

module _ (os : List Order) (s : Standing os) where
  pub no_cross_empty : crosses os ≡ false → qualifying os ≡ []
  no_cross_empty e =
      ⊎_elim (λ k. k.2)
      (λ k. absurd (not_both (told_crosses os s (qualifies_cross os s (k.each _ (le_refl _) k.some))) e))
      (span_law os)

  pub empty_no_cross : qualifying os ≡ [] → crosses os ≡ false
  empty_no_cross e =
      not_true_false (λ t. none_among (turn_of os 1) e (qualifies_listed os (cross_qualifies os s (crosses_told os s t))))

  -- buys reach sells: exactly one price is left, and it qualifies
  pub one_left : crosses os ≡ true → (ref : ℕ) → (p : ℕ) × (left_by os ref ≡ p ∷ []) × Qualifies os p
  one_left e =
      ⊎_elim (λ k. absurd (not_both e (empty_no_cross k.2))) (λ k. left_one os k) (span_law os)

  pub none_left_over : crosses os ≡ false → (ref : ℕ) → left_by os ref ≡ []
  none_left_over e ref = none_left os ref (no_cross_empty e)

  left_qualifies : (ref p : ℕ) → among (left_by os ref) p ≡ true → Qualifies os p
  left_qualifies ref p h =
      ⊎_elim
      (λ t. let l = one_left t ref in rw (one_among l.1 h) l.2)
      (λ f. absurd (none_among p (none_left_over f ref) h))
      (true_or_false (crosses os))

  pub price_rule : PriceRule os
  price_rule =
      record {
        names = λ p. ((λ e. listed_qualifies os e), (λ k. qualifies_listed os k));
        rising = qualifying_rises os;
        no_gap = qualifying_no_gap os;
        empty = (empty_no_cross, no_cross_empty);
        least_no_gap = least_no_gap os;
        one = λ ref e. ap length (one_left e ref).1;
        none = λ ref e. none_left_over e ref;
        among_them = left_qualifies;
      }

  -- the auction's price qualifies, or is 0 and buys do not reach sells
  pub auction_price_cases :
      (d : Day)
      → (Qualifies os (auction_price d os) × (crosses os ≡ true)) ⊎ ((auction_price d os ≡ 0) × (crosses os ≡ false))
  unfolding auction_price
  auction_price_cases d =
      ⊎_elim
      (λ t. let l = one_left t (reference d) in inl (rw l.1 l.2, t))
      (λ f. inr (ap (λ l. get_or l 0 0) (none_left_over f (reference d)), f))
      (true_or_false (crosses os))
