-- Demand and supply: how they move with the price, how they split at a price, their bounds, and the pass that adds them up.
use Rattle.std.specs.Prelude.{if◌then◌else◌}
use Prim.Native.Nat.{ℕ, suc, ◌+◌, ◌-◌, ◌≤◌, ◌<◌, min}
use mathlib.Core.Path.{◌≡◌, refl, sym, ap, ap₂, ◌∙◌}
use mathlib.Core.Logic.{◌⊎◌, inl, inr, ⊎_elim}
use mathlib.Core.Bool.{Bool, true, false, ◌&&◌, and-false}
use mathlib.Core.List.{List, [], ◌∷◌}
use native.Mathlib.Nat.{le_trans, sub-add_cancel}
use native.Mathlib.Numerals.{add-one}
use native.Mathlib.Decide.{dec_lt}
use native.Mathlib.Omega.{arith}
use borrow.Author.Tests.{leb-true, le-leb, lt-leb, le-ltb, lt-ltb, eq-eqb, ne_eqb}
use lib.ListN.{length, get_or, drop, drop_of_length-le}
use lib.Seq.{drop-cons}
use lib.Dec.{leb, ltb, eqb, leb-suc-suc}
use Rattle.model.specs.declared.Order.{Order}
use Rattle.model.specs.Book.{stands_on, free}
use Rattle.model.specs.Matching.{meets}
use Rattle.model.specs.Auction.{demand, supply, volume, buys_above, sells_below, buys_at, sells_at}
use Rattle.book.specs.Standing.{Fair, Standing, Ranked}
use Rattle.book.proofs.Queues.{on_live}
use Rattle.auction.specs.declared.Interest.{Interest}
use Rattle.auction.specs.Interest.{trades_for, brings, interest, interest_at}
use Rattle.model.proofs.Bools.{true_or_false, and_left, and_right, and_mono}
use Rattle.auction.proofs.Sums.{shares_end, shares_next, shares_le, shares_same, shares_split, shares_bound, shares_none}

-- ---- both sides at once
pub interest_buys : (os : List Order) (p : ℕ) → interest os 0 p ≡ demand os p
unfolding interest trades_for meets demand
interest_buys os p = refl

pub interest_sells : (os : List Order) (p : ℕ) → interest os 1 p ≡ supply os p
unfolding interest trades_for meets supply
interest_sells os p = refl

pub interest_next : (o : Order) (os : List Order) (side p : ℕ) → interest (o ∷ os) side p ≡ brings side p o + interest os side p
unfolding interest brings
interest_next o os side p = shares_next (trades_for side p) o os

pub interest_end : (side p : ℕ) → interest [] side p ≡ 0
unfolding interest
interest_end side p = shares_end (trades_for side p)

-- ---- with the price demand falls and supply rises
pub demand_falls : (os : List Order) {p q : ℕ} → p ≤ q → demand os q ≤ demand os p
unfolding demand
demand_falls os {p} {q} h =
    shares_le (λ o. stands_on 0 o && leb q o.price) (λ o. stands_on 0 o && leb p o.price)
    (λ o. and_mono (stands_on 0 o) (leb q o.price) (leb p o.price)
    (λ t. le-leb p o.price (le_trans h (leb-true q o.price t)))) os

pub supply_rises : (os : List Order) {p q : ℕ} → p ≤ q → supply os p ≤ supply os q
unfolding supply
supply_rises os {p} {q} h =
    shares_le (λ o. stands_on 1 o && leb o.price p) (λ o. stands_on 1 o && leb o.price q)
    (λ o. and_mono (stands_on 1 o) (leb o.price p) (leb o.price q)
    (λ t. le-leb o.price q (le_trans (leb-true o.price p t) h))) os

-- ---- buys above p are the demand one fen higher, sells below p the supply one fen lower
pub above_is : (os : List Order) (p : ℕ) → buys_above os p ≡ demand os (p + 1)
unfolding buys_above demand
above_is os p = rw (add-one p)

below_next : (os : List Order) (p : ℕ) → sells_below os (p + 1) ≡ supply os p
unfolding sells_below supply
below_next os p =
    rw (add-one p)
    (shares_same (λ o. stands_on 1 o && ltb o.price (suc p)) (λ o. stands_on 1 o && leb o.price p)
    (λ o. rw (leb-suc-suc o.price p)) os)

pub below_is : (os : List Order) (p : ℕ) → 1 ≤ p → sells_below os p ≡ supply os (p - 1)
below_is os p h =
    let e : p - 1 + 1 ≡ p = sub-add_cancel h in
    rw e at (below_next os (p - 1))

-- ---- with the orders at p itself they make demand and supply at p
-- of three tests of a price the first is the second or the third, never both
abbrev Splits : Bool → Bool → Bool → Type 0
Splits b c d =
    ((b ≡ true) × (c ≡ true) × (d ≡ false))
    ⊎ (((b ≡ true) × (c ≡ false) × (d ≡ true)) ⊎ ((b ≡ false) × (c ≡ false) × (d ≡ false)))

split_part :
    (a b c d : Bool) (n : ℕ)
    → Splits b c d
    → (if a && b then n else 0) ≡ (if a && c then n else 0) + (if a && d then n else 0)
split_part true b c d n (inl e) = rw (e.0, e.1, e.2) (omega arith)
split_part true b c d n (inr (inl e)) = rw (e.0, e.1, e.2) (omega arith)
split_part true b c d n (inr (inr e)) = rw (e.0, e.1, e.2) (omega arith)
split_part false b c d n e = omega arith

-- p at or below q: below it, or at it
splits : (p q : ℕ) → Splits (leb p q) (ltb p q) (eqb p q)
splits p q = elim (dec_lt p q) [
  | yes h ↦ inl (le-leb p q (omega arith), lt-ltb p q h, ne_eqb p q (omega arith))
  | no h ↦ elim (dec_lt q p) [
    | yes k ↦ inr (inr (lt-leb p q k, le-ltb p q (omega arith), ne_eqb p q (omega arith)))
    | no k ↦ inr (inl (le-leb p q (omega arith), le-ltb p q (omega arith), eq-eqb p q (omega arith)))
  ]
]

eqb_turns : (p q : ℕ) → eqb p q ≡ eqb q p
eqb_turns p q = elim (dec_lt p q) [
  | yes h ↦ ne_eqb p q (omega arith) ∙ sym (ne_eqb q p (omega arith))
  | no h ↦ elim (dec_lt q p) [
    | yes k ↦ ne_eqb p q (omega arith) ∙ sym (ne_eqb q p (omega arith))
    | no k ↦ eq-eqb p q (omega arith) ∙ sym (eq-eqb q p (omega arith))
  ]
]

pub demand_splits : (os : List Order) (p : ℕ) → demand os p ≡ buys_above os p + buys_at os p
unfolding demand buys_above buys_at
demand_splits os p =
    shares_split (λ o. stands_on 0 o && leb p o.price) (λ o. stands_on 0 o && ltb p o.price)
    (λ o. stands_on 0 o && eqb o.price p)
    (λ o. rw (eqb_turns o.price p)
    (split_part (stands_on 0 o) (leb p o.price) (ltb p o.price) (eqb p o.price) o.left (splits p o.price))) os

pub supply_splits : (os : List Order) (p : ℕ) → supply os p ≡ sells_below os p + sells_at os p
unfolding supply sells_below sells_at
supply_splits os p =
    shares_split (λ o. stands_on 1 o && leb o.price p) (λ o. stands_on 1 o && ltb o.price p)
    (λ o. stands_on 1 o && eqb o.price p)
    (λ o. split_part (stands_on 1 o) (leb o.price p) (ltb o.price p) (eqb o.price p) o.left (splits o.price p)) os

-- ---- bounds
pub interest_bound : (os : List Order) (side p : ℕ) → Ranked os → interest os side p ≤ 4_096_000_000
unfolding interest
interest_bound os side p s = shares_bound (trades_for side p) os s

pub demand_bound : (os : List Order) (p : ℕ) → Ranked os → demand os p ≤ 4_096_000_000
demand_bound os p s = rw (← interest_buys os p) (interest_bound os 0 p s)

pub supply_bound : (os : List Order) (p : ℕ) → Ranked os → supply os p ≤ 4_096_000_000
supply_bound os p s = rw (← interest_sells os p) (interest_bound os 1 p s)

-- nobody buys above the dearest price, nobody sells below the cheapest
pub demand_top : (os : List Order) → Standing os → demand os 1_000_000 ≡ 0
unfolding demand
demand_top os s =
    shares_none (λ o. stands_on 0 o && leb 1_000_000 o.price)
    (λ o f. rw (lt-leb 1_000_000 o.price (omega (arith, f.price))) (and-false (stands_on 0 o))) os s.fair

pub supply_bottom : (os : List Order) → Standing os → supply os 0 ≡ 0
unfolding supply
supply_bottom os s = shares_none (λ o. stands_on 1 o && leb o.price 0) none os s.fair
  where
    none : (o : Order) → Fair o → stands_on 1 o && leb o.price 0 ≡ false
    none o f =
        ⊎_elim
        (λ t. absurd
        (omega (
          arith,
          f.priced (on_live 1 o (and_left (stands_on 1 o) (leb o.price 0) t)),
          leb-true o.price 0 (and_right (stands_on 1 o) (leb o.price 0) t),
        )))
        (λ t. t)
        (true_or_false (stands_on 1 o && leb o.price 0))

-- ---- the pass: what is added up so far, with what the rest of the book brings, is the whole
pub record Passed (rows : List Order) (least most demand supply i : ℕ) : Type 0 where
  pub within : i ≤ length rows
  pub buys : demand + interest (drop i rows) 0 least ≡ interest rows 0 least
  pub sells : supply + interest (drop i rows) 1 most ≡ interest rows 1 most

module _ (rows : List Order) (least most : ℕ) where
  pub passed_start : Passed rows least most 0 0 0
  passed_start = record { within = omega arith; buys = omega arith; sells = omega arith }

  next_row :
      (i side p : ℕ)
      → i < length rows
      → interest (drop i rows) side p ≡ brings side p (get_or rows i free) + interest (drop (i + 1) rows) side p
  next_row i side p h =
      rw (add-one, drop-cons rows i free) (interest_next (get_or rows i free) (drop (suc i) rows) side p)

  module _ {d s i : ℕ} {o : Order} (k : Passed rows least most d s i) (h : i < length rows) (ho : o ≡ get_or rows i free) where
    pub passed_next : {x y : ℕ} → x ≡ brings 0 least o → y ≡ brings 1 most o → Passed rows least most (d + x) (s + y) (i + 1)
    passed_next {x} {y} hx hy =
        let x' : x ≡ brings 0 least (get_or rows i free) = hx ∙ ap (brings 0 least) ho in
        let y' : y ≡ brings 1 most (get_or rows i free) = hy ∙ ap (brings 1 most) ho in
        record {
          within = omega arith;
          buys = omega (arith, next_row i 0 least h, k.buys);
          sells = omega (arith, next_row i 1 most h, k.sells);
        }

    -- neither sum wraps
    pub buys_fit : {x : ℕ} → Ranked rows → x ≡ brings 0 least o → d + x ≤ 4_096_000_000
    buys_fit {x} b hx =
        let x' : x ≡ brings 0 least (get_or rows i free) = hx ∙ ap (brings 0 least) ho in
        omega (arith, next_row i 0 least h, k.buys, interest_bound rows 0 least b)

    pub sells_fit : {y : ℕ} → Ranked rows → y ≡ brings 1 most o → s + y ≤ 4_096_000_000
    sells_fit {y} b hy =
        let y' : y ≡ brings 1 most (get_or rows i free) = hy ∙ ap (brings 1 most) ho in
        omega (arith, next_row i 1 most h, k.sells, interest_bound rows 1 most b)

  pub passed_end :
      {d s i : ℕ}
      → Passed rows least most d s i
      → length rows ≤ i
      → record { demand = d; supply = s } ≡ interest_at rows least most
  unfolding interest_at
  passed_end {d} {s} {i} k h =
      let none : (drop i rows) ≡ [] = drop_of_length-le rows h in
      let b : interest (drop i rows) 0 least ≡ 0 = ap (λ l. interest l 0 least) none ∙ interest_end 0 least in
      let c : interest (drop i rows) 1 most ≡ 0 = ap (λ l. interest l 1 most) none ∙ interest_end 1 most in
      let e : d ≡ demand rows least = omega (arith, k.buys, interest_buys rows least) in
      let f : s ≡ supply rows most = omega (arith, k.sells, interest_sells rows most) in
      λ j. record { demand = e j; supply = f j }

-- what a pass gives, by its two parts
pub pass_buys : (os : List Order) (least most : ℕ) {r : Interest} → r ≡ interest_at os least most → r.demand ≡ demand os least
unfolding interest_at
pass_buys os least most e = ap (λ r. r.demand) e

pub pass_sells : (os : List Order) (least most : ℕ) {r : Interest} → r ≡ interest_at os least most → r.supply ≡ supply os most
unfolding interest_at
pass_sells os least most e = ap (λ r. r.supply) e

pub pass_volume :
    (os : List Order) (p : ℕ) {v : ℕ} {r : Interest}
    → r ≡ interest_at os p p
    → v ≡ min r.demand r.supply
    → v ≡ volume os p
unfolding volume
pass_volume os p e hv = hv ∙ ap₂ min (pass_buys os p p e) (pass_sells os p p e)
