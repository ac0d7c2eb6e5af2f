-- The three conditions at one price: the second, with a volume of at least 1, gives the other two; the prices that meet them
-- have no gap, and strictly between two of them nothing is left over.
use Prim.Native.Nat.{ℕ, ◌+◌, ◌-◌, ◌≤◌, ◌<◌, min}
use mathlib.Core.Path.{◌≡◌, refl}
use mathlib.Core.Logic.{◌⊎◌, inl, inr, ⊎_elim}
use mathlib.Core.Bool.{Bool, true, false, ◌&&◌, ◌||◌}
use mathlib.Core.List.{List}
use native.Mathlib.Nat.{le_refl}
use native.Mathlib.Decide.{dec_le}
use native.Mathlib.Omega.{arith}
use borrow.Author.Tests.{leb-true, le-leb}
use lib.Dec.{leb}
use Rattle.model.specs.Words.{Price, Most, BetterFills, OneFills, Qualifies}
use Rattle.model.specs.declared.Order.{Order}
use Rattle.model.specs.Auction.{prices, demand, supply, volume, buys_above, sells_below, buys_at, sells_at, most_trades, better_fill, one_side_fills, qualifies}
use Rattle.model.proofs.Bools.{not_both, and_left, and_right, and_both, not_true_false}
use Rattle.auction.proofs.Sides.{demand_falls, supply_rises, above_is, below_is, demand_splits, supply_splits}
use Rattle.auction.proofs.Runs.{all_run, run_all}

pub volume_is : (os : List Order) (p : ℕ) → volume os p ≡ min (demand os p) (supply os p)
unfolding volume
volume_is os p = refl

-- ---- the second condition, by demand and supply alone
-- the sells at p or below are some, and cover the buys above p: holds from some price upward
pub record SellsCover (os : List Order) (p : ℕ) : Type 0 where
  pub some : 1 ≤ supply os p
  pub cover : demand os (p + 1) ≤ supply os p

-- the buys at p or above are some, and cover the sells below p: holds up to some price
pub record BuysCover (os : List Order) (p : ℕ) : Type 0 where
  pub some : 1 ≤ demand os p
  pub cover : supply os (p - 1) ≤ demand os p

pub record Clears (os : List Order) (p : ℕ) : Type 0 where
  pub price : Price p
  pub sells : SellsCover os p
  pub buys : BuysCover os p

pub sells_cover_up : (os : List Order) {p q : ℕ} → p ≤ q → SellsCover os p → SellsCover os q
sells_cover_up os {p} {q} h s =
    let a = supply_rises os h in
    let b : demand os (q + 1) ≤ demand os (p + 1) = demand_falls os (omega arith) in
    record { some = omega arith; cover = omega arith }

pub buys_cover_down : (os : List Order) {p q : ℕ} → p ≤ q → BuysCover os q → BuysCover os p
buys_cover_down os {p} {q} h s =
    let a = demand_falls os h in
    let b : supply os (p - 1) ≤ supply os (q - 1) = supply_rises os (omega arith) in
    record { some = omega arith; cover = omega arith }

pub second_clears : (os : List Order) {p : ℕ} → Price p → 1 ≤ volume os p → BetterFills os p → Clears os p
second_clears os {p} k v b =
    let e = volume_is os p in
    let a = above_is os p in
    let c = below_is os p k.low in
    record {
      price = k;
      sells = record { some = omega arith; cover = omega arith };
      buys = record { some = omega arith; cover = omega arith };
    }

pub qualifies_clears : (os : List Order) {p : ℕ} → Qualifies os p → Clears os p
qualifies_clears os k = second_clears os k.price k.trades k.better

clears_better : (os : List Order) {p : ℕ} → Clears os p → BetterFills os p
clears_better os {p} f =
    let e = volume_is os p in
    let a = above_is os p in
    let b = below_is os p f.price.low in
    let c : demand os (p + 1) ≤ demand os p = demand_falls os (omega arith) in
    let d : supply os (p - 1) ≤ supply os p = supply_rises os (omega arith) in
    omega arith

clears_most : (os : List Order) {p : ℕ} → Clears os p → Most os p
clears_most os {p} f q k =
    let e = volume_is os q in
    let b = clears_better os f in
    elim (dec_le q p) [
      | yes h ↦ elim (dec_le p q) [
        | yes h' ↦ let z : q ≡ p = omega arith in rw z (le_refl (volume os p))
        | no h' ↦
            let a : supply os q ≤ supply os (p - 1) = supply_rises os (omega arith) in
            let c = below_is os p f.price.low in
            omega arith
      ]
      | no h ↦
          let a : demand os q ≤ demand os (p + 1) = demand_falls os (omega arith) in
          let c = above_is os p in
          omega arith
    ]

-- the third condition holds at every price: the side that is not larger fills
pub one_fills : (os : List Order) (p : ℕ) → OneFills os p
one_fills os p =
    let e = volume_is os p in
    let a = demand_splits os p in
    let b = supply_splits os p in
    elim (dec_le (demand os p) (supply os p)) [ yes h ↦ inl (omega arith) | no h ↦ inr (omega arith) ]

pub clears_qualifies : (os : List Order) {p : ℕ} → Clears os p → Qualifies os p
clears_qualifies os {p} f =
    record {
      price = f.price;
      trades = omega (arith, f.sells.some, f.buys.some, volume_is os p);
      most = clears_most os f;
      better = clears_better os f;
      one_side = one_fills os p;
    }

-- the second condition, with a volume of at least 1, already gives the other two
pub second_gives_all : (os : List Order) {p : ℕ} → Price p → 1 ≤ volume os p → BetterFills os p → Most os p × OneFills os p
second_gives_all os {p} k v b = (clears_most os (second_clears os k v b), one_fills os p)

-- ---- no gap
pub qualifies_between : (os : List Order) {p q r : ℕ} → Qualifies os p → Qualifies os r → p ≤ q → q ≤ r → Qualifies os q
qualifies_between os kp kr h h' =
    let fp = qualifies_clears os kp in
    let fr = qualifies_clears os kr in
    clears_qualifies os
    (record {
      price = record { low = omega arith; high = omega arith };
      sells = sells_cover_up os h fp.sells;
      buys = buys_cover_down os h' fr.buys;
    })

-- at neighbours that both qualify, the demand at the upper is the supply at the lower
neighbours : (os : List Order) {p : ℕ} → Qualifies os p → Qualifies os (p + 1) → demand os (p + 1) ≡ supply os p
neighbours os {p} k k' =
    let f = qualifies_clears os k in
    let g = qualifies_clears os k' in
    let e : p + 1 - 1 ≡ p = omega arith in
    let h : supply os p ≤ demand os (p + 1) = rw e at g.buys.cover in
    omega arith

-- strictly between two qualifying prices nothing is left over
pub inner_level : (os : List Order) {p q r : ℕ} → Qualifies os p → Qualifies os r → p < q → q < r → demand os q ≡ supply os q
inner_level os {p} {q} {r} kp kr h h' =
    let e : q - 1 + 1 ≡ q = omega arith in
    let below : Qualifies os (q - 1) = qualifies_between os kp kr (omega arith) (omega arith) in
    let here : Qualifies os q = qualifies_between os kp kr (omega arith) (omega arith) in
    let above : Qualifies os (q + 1) = qualifies_between os kp kr (omega arith) (omega arith) in
    let here' : Qualifies os (q - 1 + 1) = rw e here in
    let a : demand os q ≡ supply os (q - 1) = rw e at (neighbours os below here') in
    let b = neighbours os here above in
    let c : supply os (q - 1) ≤ supply os q = supply_rises os (omega arith) in
    let d : demand os (q + 1) ≤ demand os q = demand_falls os (omega arith) in
    omega arith

-- ---- the tests of the definition say the same
most_told : (os : List Order) (p : ℕ) → most_trades os p ≡ true → Most os p
unfolding most_trades prices
most_told os p e q k =
    leb-true (volume os q) (volume os p)
    (run_all (λ q. leb (volume os q) (volume os p)) 1 999_999 e q k.low (omega (arith, k.high)))

most_tests : (os : List Order) (p : ℕ) → Most os p → most_trades os p ≡ true
unfolding most_trades prices
most_tests os p h =
    all_run (λ q. leb (volume os q) (volume os p)) 1 999_999
    (λ q k l. le-leb (volume os q) (volume os p) (h q (record { low = k; high = omega arith })))

either_or : (a b : Bool) → (a ≡ true) ⊎ (b ≡ true) → a || b ≡ true
either_or true b e = refl
either_or false b (inl e) = absurd (not_both e refl)
either_or false b (inr e) = e

better_told : (os : List Order) (p : ℕ) → better_fill os p ≡ true → BetterFills os p
unfolding better_fill
better_told os p e = (
  leb-true (buys_above os p) (volume os p) (and_left (leb (buys_above os p) (volume os p)) (leb (sells_below os p) (volume os p)) e),
  leb-true (sells_below os p) (volume os p) (and_right (leb (buys_above os p) (volume os p)) (leb (sells_below os p) (volume os p)) e),
)

better_tests : (os : List Order) (p : ℕ) → BetterFills os p → better_fill os p ≡ true
unfolding better_fill
better_tests os p h =
    and_both (le-leb (buys_above os p) (volume os p) h.0) (le-leb (sells_below os p) (volume os p) h.1)

one_tests : (os : List Order) (p : ℕ) → OneFills os p → one_side_fills os p ≡ true
unfolding one_side_fills
one_tests os p h =
    either_or (leb (buys_above os p + buys_at os p) (volume os p)) (leb (sells_below os p + sells_at os p) (volume os p))
    (⊎_elim (λ k. inl (le-leb (buys_above os p + buys_at os p) (volume os p) k)) (λ k. inr (le-leb (sells_below os p + sells_at os p) (volume os p) k)) h)

pub test_told : (os : List Order) {p : ℕ} → Price p → qualifies os p ≡ true → Qualifies os p
unfolding qualifies
test_told os {p} k e =
    let a : Bool = leb 1 (volume os p) in
    let b : Bool = most_trades os p in
    let c : Bool = better_fill os p in
    let d : Bool = one_side_fills os p in
    let abc = and_left (a && b && c) d e in
    let ab = and_left (a && b) c abc in
    record {
      price = k;
      trades = leb-true 1 (volume os p) (and_left a b ab);
      most = most_told os p (and_right a b ab);
      better = better_told os p (and_right (a && b) c abc);
      one_side = one_fills os p;
    }

pub told_test : (os : List Order) {p : ℕ} → Qualifies os p → qualifies os p ≡ true
unfolding qualifies
told_test os {p} k =
    and_both
    (and_both (and_both (le-leb 1 (volume os p) k.trades) (most_tests os p k.most)) (better_tests os p k.better))
    (one_tests os p k.one_side)

-- so that of the tests the second gives the others, and is with a volume of at least 1 the whole test
pub second_tests :
    (os : List Order) {p : ℕ}
    → Price p
    → 1 ≤ volume os p
    → better_fill os p ≡ true
    → (most_trades os p ≡ true) × (one_side_fills os p ≡ true)
second_tests os {p} k v b =
    let h = second_gives_all os k v (better_told os p b) in
    (most_tests os p h.0, one_tests os p h.1)

pub second_alone : (os : List Order) {p : ℕ} → Price p → qualifies os p ≡ (leb 1 (volume os p) && better_fill os p)
unfolding qualifies
second_alone os {p} k = go (leb 1 (volume os p) && better_fill os p) refl
  where
    second : Bool
    second = leb 1 (volume os p) && better_fill os p

    go : (b : Bool) → second ≡ b → qualifies os p ≡ b
    go true e =
        let v = and_left (leb 1 (volume os p)) (better_fill os p) e in
        let b = and_right (leb 1 (volume os p)) (better_fill os p) e in
        let h = second_tests os k (leb-true 1 (volume os p) v) b in
        and_both (and_both (and_both v h.0) b) h.1
    go false e =
        not_true_false
        (λ t.
        let q = test_told os k t in
        not_both (and_both (le-leb 1 (volume os p) q.trades) (better_tests os p q.better)) e)
