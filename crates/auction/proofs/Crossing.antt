-- Buys reach sells exactly where some price has volume, and then some price qualifies.
use Rattle.std.specs.Prelude.{if◌then◌else◌}
use Prim.Native.Nat.{ℕ, ◌+◌, ◌-◌, ◌≤◌, ◌<◌}
use mathlib.Core.Path.{◌≡◌, refl, sym, ap, ◌∙◌}
use mathlib.Core.Logic.{◌⊎◌, inl, inr, ⊎_elim}
use mathlib.Core.Bool.{Bool, true, false, not, ◌&&◌, ◌||◌}
use mathlib.Core.List.{List, [], ◌∷◌}
use native.Mathlib.Nat.{le_refl, le_trans}
use native.Mathlib.Decide.{dec_lt, dec_le, ℕ_discrete}
use native.Mathlib.Omega.{arith}
use borrow.Author.Tests.{leb-true, le-leb, ltb-false, ltb-true, eqb-true, eq-eqb, ne_eqb, eqb-false, not-true}
use lib.Dec.{leb, ltb, eqb}
use Rattle.model.specs.declared.Order.{Order}
use Rattle.model.specs.Lists.{keep}
use Rattle.model.specs.Book.{stands_on, better, ahead, insert, in_priority, queue, head_price, best}
use Rattle.model.specs.Matching.{meets}
use Rattle.model.specs.Auction.{demand, supply}
use Rattle.model.specs.Sound.{crosses}
use Rattle.model.specs.Words.{Each, Qualifies}
use Rattle.book.specs.Standing.{Fair, Standing}
use Rattle.book.proofs.Queues.{Stands, on_live, queue_stands}
use Rattle.book.proofs.Best.{best_price}
use Rattle.auction.specs.Interest.{trades_for, brings, interest}
use Rattle.auction.specs.Spans.{turned, turn_of}
use Rattle.model.proofs.Bools.{not_both, not_true_false, and_left, and_right, and_both}
use Rattle.auction.proofs.Sums.{part_is, part_none}
use Rattle.auction.proofs.Sides.{interest_buys, interest_sells, interest_next, interest_end, demand_falls, supply_rises, demand_top, supply_bottom}
use Rattle.auction.proofs.Conditions.{SellsCover, BuysCover, clears_qualifies, qualifies_clears}
use Rattle.auction.proofs.Turning.{Turns, turn_law, sells_turned, turned_sells}

-- ---- a side's best order may trade at every price at which some order of the side may
meets_either : (side : ℕ) (P : Bool → Type 0) → (side ≡ 0 → P true) → ((side ≡ 0 → ⊥) → P false) → P (eqb side 0)
meets_either side P buys sells = elim (ℕ_discrete side 0) [
  | yes z ↦ rw (eq-eqb side 0 z) (buys z)
  | no z ↦ rw (ne_eqb side 0 z) (sells z)
]

module _ (side : ℕ) (a b : Order) (p : ℕ) where
  -- not worse in price
  not_worse : (better side b.price a.price ≡ true → ⊥) → meets side b.price p ≡ true → meets side a.price p ≡ true
  unfolding better meets
  not_worse =
      meets_either side
      (λ t. ((if t then ltb a.price b.price else ltb b.price a.price) ≡ true → ⊥) → (if t then leb p b.price else leb b.price p) ≡ true → (if t then leb p a.price else leb a.price p) ≡ true)
      (λ z h e. le-leb p a.price (omega (arith, ltb-false a.price b.price (not_true_false h), leb-true p b.price e)))
      (λ z h e. le-leb a.price p (omega (arith, ltb-false b.price a.price (not_true_false h), leb-true b.price p e)))

  worse_not_ahead : ahead side a b ≡ true → better side b.price a.price ≡ true → ⊥
  unfolding ahead better
  worse_not_ahead =
      meets_either side
      (λ t. ((if t then ltb b.price a.price else ltb a.price b.price) || (eqb a.price b.price && ltb a.number b.number)) ≡ true → (if t then ltb a.price b.price else ltb b.price a.price) ≡ true → ⊥)
      (λ z e f. strict a.price b.price (or_and (ltb b.price a.price) e) (ltb-true a.price b.price f))
      (λ z e f. strict b.price a.price (⊎_elim inl (λ k. inr (sym k)) (or_and (ltb a.price b.price) e)) (ltb-true b.price a.price f))
    where
      or_and :
          (x : Bool)
          → x || (eqb a.price b.price && ltb a.number b.number) ≡ true
          → (x ≡ true) ⊎ (a.price ≡ b.price)
      or_and true e = inl refl
      or_and false e =
          inr (eqb-true a.price b.price (and_left (eqb a.price b.price) (ltb a.number b.number) e))

      strict : (m n : ℕ) → (ltb n m ≡ true) ⊎ (m ≡ n) → m < n → ⊥
      strict m n h k = ⊎_elim (λ t. omega (arith, ltb-true n m t)) (λ e. omega arith) h

  pub ahead_meets : ahead side a b ≡ true → meets side b.price p ≡ true → meets side a.price p ≡ true
  ahead_meets e = not_worse (worse_not_ahead e)

module _ (side : ℕ) (p : ℕ) where
  -- the first order of a queue may trade at p
  abbrev Reaches : List Order → Type 0
  Reaches [] = ⊥
  Reaches (o ∷ os) = meets side o.price p ≡ true

  behind_meets : (a b : Order) → ahead side a b ≡ false → meets side a.price p ≡ true → meets side b.price p ≡ true
  unfolding ahead
  behind_meets a b e =
      not_worse side b a p (λ t. not_both (rw t) e)

  insert_new : (o : Order) (q : List Order) → meets side o.price p ≡ true → Reaches (insert side o q)
  unfolding insert
  insert_new o [] h = h
  insert_new o (b ∷ q) h = go (ahead side b o) refl
    where
      go : (t : Bool) → ahead side b o ≡ t → Reaches (if t then b ∷ insert side o q else o ∷ b ∷ q)
      go true e = ahead_meets side b o p e h
      go false e = h

  insert_old : (o : Order) (q : List Order) → Reaches q → Reaches (insert side o q)
  unfolding insert
  insert_old o [] h = absurd h
  insert_old o (b ∷ q) h = go (ahead side b o) refl
    where
      go : (t : Bool) → ahead side b o ≡ t → Reaches (if t then b ∷ insert side o q else o ∷ b ∷ q)
      go true e = h
      go false e = behind_meets b o e h

  insert_from : (o : Order) (q : List Order) → Reaches (insert side o q) → (meets side o.price p ≡ true) ⊎ Reaches q
  unfolding insert
  insert_from o [] h = inl h
  insert_from o (b ∷ q) h = go (ahead side b o) h
    where
      go :
          (t : Bool)
          → Reaches (if t then b ∷ insert side o q else o ∷ b ∷ q)
          → (meets side o.price p ≡ true) ⊎ Reaches (b ∷ q)
      go true k = inr k
      go false k = inl k

  -- the queue with one place more
  queue_on : (o : Order) (os : List Order) → stands_on side o ≡ true → queue side (o ∷ os) ≡ insert side o (queue side os)
  unfolding queue keep in_priority
  queue_on o os e = rw e

  queue_off : (o : Order) (os : List Order) → stands_on side o ≡ false → queue side (o ∷ os) ≡ queue side os
  unfolding queue keep in_priority
  queue_off o os e = rw e

  nobody : Reaches (queue side []) → ⊥
  unfolding queue keep in_priority
  nobody h = h

  brings_off : (o : Order) → trades_for side p o ≡ false → brings side p o ≡ 0
  unfolding brings
  brings_off o e = part_none (trades_for side p o) o.left e

  brings_on : (o : Order) → trades_for side p o ≡ true → brings side p o ≡ o.left
  unfolding brings
  brings_on o e = part_is (trades_for side p o) o.left e

  -- some shares of the side may trade at p: so may its best order
  pub some_reach : (os : List Order) → 1 ≤ interest os side p → Reaches (queue side os)
  unfolding trades_for
  some_reach [] h = absurd (omega (arith, interest_end side p))
  some_reach (o ∷ os) h = go (stands_on side o) (meets side o.price p) refl refl (some_reach os)
    where
      go :
          (s m : Bool)
          → stands_on side o ≡ s
          → meets side o.price p ≡ m
          → (1 ≤ interest os side p → Reaches (queue side os))
          → Reaches (queue side (o ∷ os))
      go true true es em more = rw (queue_on o os es) (insert_new o (queue side os) em)
      go true false es em more =
          let z = brings_off o (rw (es, em)) in
          rw (queue_on o os es) (insert_old o (queue side os) (more (omega (arith, interest_next o os side p))))
      go false m es em more =
          let z = brings_off o (rw es) in
          rw (queue_off o os es) (more (omega (arith, interest_next o os side p)))

  pub reach_some : (os : List Order) → Each Fair os → Reaches (queue side os) → 1 ≤ interest os side p
  unfolding trades_for
  reach_some [] f h = absurd (nobody h)
  reach_some (o ∷ os) f h = go (stands_on side o) refl (reach_some os f.1)
    where
      go : (s : Bool) → stands_on side o ≡ s → (Reaches (queue side os) → 1 ≤ interest os side p) → 1 ≤ interest (o ∷ os) side p
      go true es more =
          ⊎_elim
          (λ m. omega (arith, interest_next o os side p, brings_on o (rw (es, m)), f.0.some (on_live side o es)))
          (λ r. omega (arith, interest_next o os side p, more r))
          (insert_from o (queue side os) (rw (queue_on o os es) at h))
      go false es more = omega (arith, interest_next o os side p, more (rw (queue_off o os es) at h))

-- ---- the best prices
-- a queue whose first order may trade at p has a best price, which meets p
best_meets :
    (side p : ℕ) (q : List Order)
    → Each (Stands side) q
    → Reaches side p q
    → (1 ≤ head_price q) × (meets side (head_price q) p ≡ true)
unfolding head_price
best_meets side p [] f h = absurd h
best_meets side p (o ∷ q) f h = (f.0.0.priced (on_live side o f.0.1), h)

meets_best : (side p : ℕ) (q : List Order) → 1 ≤ head_price q → meets side (head_price q) p ≡ true → Reaches side p q
unfolding head_price
meets_best side p [] h e = absurd (omega arith)
meets_best side p (o ∷ q) h e = e

some_test : (n : ℕ) → 1 ≤ n → not (eqb n 0) ≡ true
some_test n h = rw (ne_eqb n 0 (omega arith))

module _ (os : List Order) (s : Standing os) where
  -- what buys that reach sells are: two best prices, of which the sell's is not above the buy's
  pub record Cross : Type 0 where
    pub buys : 1 ≤ best 0 os
    pub sells : 1 ≤ best 1 os
    pub meet : best 1 os ≤ best 0 os

  pub crosses_told : crosses os ≡ true → Cross
  unfolding crosses
  crosses_told e =
      let a : Bool = not (eqb (best 0 os) 0) in
      let b : Bool = not (eqb (best 1 os) 0) in
      let c : Bool = leb (best 1 os) (best 0 os) in
      let ab = and_left (a && b) c e in
      record {
        buys = positive (best 0 os) (and_left a b ab);
        sells = positive (best 1 os) (and_right a b ab);
        meet = leb-true (best 1 os) (best 0 os) (and_right (a && b) c e);
      }
    where
      positive : (n : ℕ) → not (eqb n 0) ≡ true → 1 ≤ n
      positive n e = let k = eqb-false n 0 (not-true (eqb n 0) e) in omega arith

  pub told_crosses : Cross → crosses os ≡ true
  unfolding crosses
  told_crosses c =
      and_both
      (and_both (some_test (best 0 os) c.buys) (some_test (best 1 os) c.sells))
      (le-leb (best 1 os) (best 0 os) c.meet)

  -- a side trades at p exactly where its best price meets p
  pub demand_best : (p : ℕ) → 1 ≤ demand os p → (1 ≤ best 0 os) × (p ≤ best 0 os)
  unfolding best meets
  demand_best p h =
      let r = some_reach 0 p os (rw (interest_buys os p) h) in
      let k = best_meets 0 p (queue 0 os) (queue_stands 0 os s.fair) r in
      (k.0, leb-true p (head_price (queue 0 os)) k.1)

  pub supply_best : (p : ℕ) → 1 ≤ supply os p → (1 ≤ best 1 os) × (best 1 os ≤ p)
  unfolding best meets
  supply_best p h =
      let r = some_reach 1 p os (rw (interest_sells os p) h) in
      let k = best_meets 1 p (queue 1 os) (queue_stands 1 os s.fair) r in
      (k.0, leb-true (head_price (queue 1 os)) p k.1)

  pub best_demand : (p : ℕ) → 1 ≤ best 0 os → p ≤ best 0 os → 1 ≤ demand os p
  unfolding best meets
  best_demand p h k =
      rw (← interest_buys os p)
      (reach_some 0 p os s.fair (meets_best 0 p (queue 0 os) h (le-leb p (head_price (queue 0 os)) k)))

  pub best_supply : (p : ℕ) → 1 ≤ best 1 os → best 1 os ≤ p → 1 ≤ supply os p
  unfolding best meets
  best_supply p h k =
      rw (← interest_sells os p)
      (reach_some 1 p os s.fair (meets_best 1 p (queue 1 os) h (le-leb (head_price (queue 1 os)) p k)))

  -- ---- where buys reach sells some price qualifies
  -- below the sells' turning point there are no sells, or more buys
  turn_below : {r : ℕ} → Turns os 1 r → (supply os (r - 1) ≡ 0) ⊎ (supply os (r - 1) < demand os r)
  turn_below {r} t = elim (dec_lt 1 r) [
    | yes l ↦
        let e : r - 1 + 1 ≡ r = omega arith in
        elim (dec_le 1 (supply os (r - 1))) [
          | yes h ↦ elim (dec_le (demand os (r - 1 + 1)) (supply os (r - 1))) [
            | yes h' ↦
                absurd
                (not_both (turned_sells os (r - 1) (record { some = h; cover = h' })) (t.before (r - 1) (omega arith) (omega arith)))
            | no h' ↦ let f : demand os (r - 1 + 1) ≡ demand os r = ap (demand os) e in inr (omega arith)
          ]
          | no h ↦ inl (omega arith)
        ]
    | no l ↦ let z : r - 1 ≡ 0 = omega arith in inl (ap (supply os) z ∙ supply_bottom os s)
  ]

  -- so there the buys cover too, where some price b has volume
  buys_cover_first :
      (b : ℕ) {r : ℕ}
      → 1 ≤ demand os b
      → 1 ≤ supply os b
      → (supply os (r - 1) ≡ 0) ⊎ (supply os (r - 1) < demand os r)
      → BuysCover os r
  buys_cover_first b {r} db sb turn = elim (dec_le r b) [
    | yes l ↦
        let a = demand_falls os l in
        record { some = omega arith; cover = ⊎_elim (λ z. omega arith) (λ z. omega arith) turn }
    | no l ↦
        let a : supply os b ≤ supply os (r - 1) = supply_rises os (omega arith) in
        ⊎_elim (λ z. absurd (omega arith)) (λ z. record { some = omega arith; cover = omega arith }) turn
  ]

  volume_qualifies : (b : ℕ) → b ≤ 999_999 → 1 ≤ demand os b → 1 ≤ supply os b → Qualifies os (turn_of os 1)
  volume_qualifies b h db sb =
      let t = turn_law os 1 in
      let high : SellsCover os 999_999 =
      record { some = le_trans sb (supply_rises os h); cover = omega (arith, demand_top os s) } in
      let low : turn_of os 1 ≤ 999_999 = below_top t (turned_sells os 999_999 high) in
      clears_qualifies os
      (record {
        price = record { low = t.from_1; high = low };
        sells = sells_turned os (turn_of os 1) (t.after (turn_of os 1) (le_refl (turn_of os 1)) low);
        buys = buys_cover_first b db sb (turn_below t);
      })
    where
      below_top : {r : ℕ} → Turns os 1 r → turned os 1 999_999 ≡ true → r ≤ 999_999
      below_top {r} t e = elim (dec_le r 999_999) [
        | yes l ↦ l
        | no l ↦ absurd (not_both e (t.before 999_999 (omega arith) (omega arith)))
      ]

  pub cross_qualifies : Cross → Qualifies os (turn_of os 1)
  cross_qualifies c =
      volume_qualifies (best 0 os) (best_price 0 os s.fair) (best_demand (best 0 os) c.buys (le_refl (best 0 os)))
      (best_supply (best 0 os) c.sells c.meet)

  pub qualifies_cross : {p : ℕ} → Qualifies os p → Cross
  qualifies_cross {p} k =
      let f = qualifies_clears os k in
      let b = demand_best p f.buys.some in
      let a = supply_best p f.sells.some in
      record { buys = b.0; sells = a.0; meet = le_trans a.1 b.1 }
