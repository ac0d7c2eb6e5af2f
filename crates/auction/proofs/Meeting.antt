-- The walk along both sides of an auction: the heads trade with each other while the buy reaches the sell.
use Prim.Native.Nat.{ℕ, ◌+◌, ◌≤◌, ◌<◌, ◌^◌, min}
use mathlib.Core.Path.{◌≡◌, refl, sym, ap, ◌∙◌}
use mathlib.Core.Bool.{true, false, ◌&&◌}
use mathlib.Core.List.{List, [], ◌∷◌}
use mathlib.Core.Logic.{◌⊎◌, inl, inr, ⊎_elim}
use native.Mathlib.Decide.{dec_lt, ℕ_discrete}
use native.Mathlib.Omega.{arith}
use lib.ListN.{take}
use lib.Dec.{ltb, leb}
use borrow.Author.Tests.{ltb-true, leb-true, leb-false, le-leb, lt-ltb, eq-eqb, ne_eqb}
use Rattle.model.specs.declared.Order.{Order}
use Rattle.model.specs.Book.{queue}
use Rattle.model.specs.Matching.{meets}
use Rattle.model.specs.Auction.{distance, demand, supply, volume, qualifying}
use Rattle.model.proofs.Bools.{and_left, and_right}
use Rattle.book.specs.declared.Head.{Head}
use Rattle.model.specs.Words.{Each, Price}
use Rattle.book.specs.Standing.{Ranked}
use Rattle.book.specs.Lines.{line}
use Rattle.book.specs.Heads.{head_of, head_past, waiting}
use Rattle.book.proofs.Lists.{each, every, each_drop}
use Rattle.book.proofs.Waiting.{past_kept, past_next, placed_first, placed_past}
use Rattle.auction.specs.declared.Crossed.{Crossed}
use Rattle.auction.specs.Spans.{ends, gap}
use Rattle.auction.specs.Walks.{crossing, crossed_by, higher, lower, span_of, reach, left_at, FillsAt, StopOf}
use Rattle.auction.proofs.Sides.{interest_buys, interest_sells}
use Rattle.auction.proofs.Stretches.{Stretches}
use Rattle.auction.proofs.Walks.{NoBetter, Taken, taken_start, taken_next, stops, queue_falls, taken_fits, head_reach, reach_falls}
use Rattle.auction.proofs.Leaving.{left_over_lem}
use Rattle.auction.proofs.Stopping.{Buys, Sells, buys_stop, sells_stop, none_crossed, some_crossed}

-- ---- the walk

-- a head with shares has a price
abbrev pub Priced : Head → Type 0
Priced h = 0 < h.left → Price h.price

abbrev InRange : Order → Type 0
InRange o = Price o.price

first_priced : (at : ℕ) (os : List Order) → Each InRange os → Priced (head_of at os)
unfolding head_of
first_priced at [] e l = absurd (omega arith)
first_priced at (o ∷ os) e l = e.0

past_priced : (q : ℕ) (h : Head) (os : List Order) → Priced h → Each InRange os → Priced (head_past q h os)
past_priced q h os p e = elim (dec_lt q h.left) [
  | yes l ↦ rw (sym (past_kept q h os l)) (λ x. p (omega arith))
  | no l ↦ rw (sym (past_next q h os (omega arith) refl)) (first_priced (h.at + 1) os e)
]

pub record Walked (rows : List Order) (middle end : ℕ) (c : Crossed) (buy sell : Head) : Type 0 where
  pub buys : Taken 0 (queue 0 rows) middle rows c.shares c.buy buy
  pub sells : Taken 1 (queue 1 rows) end rows c.shares c.sell sell
  pub buying : ((0 < buy.left) × (buy.at < middle)) ⊎ ((buy.left ≡ 0) × (middle ≤ buy.at))
  pub selling : ((0 < sell.left) × (sell.at < end)) ⊎ ((sell.left ≡ 0) × (end ≤ sell.at))
  pub buy_priced : Priced buy
  pub sell_priced : Priced sell
  pub order : c.sell ≤ c.buy
  pub bottom : 1 ≤ c.shares → 1 ≤ c.sell
  pub top : 1 ≤ c.shares → c.buy ≤ 999_999

-- ---- the test

module _ (buy sell : Head) where
  -- they trade with each other
  crossing_true : crossing buy sell ≡ true → (0 < buy.left) × (0 < sell.left) × (sell.price ≤ buy.price)
  unfolding crossing
  crossing_true e =
      let a : ltb 0 buy.left ≡ true = and_left (ltb 0 buy.left) (ltb 0 sell.left && leb sell.price buy.price) e in
      let r : ltb 0 sell.left && leb sell.price buy.price ≡ true = and_right (ltb 0 buy.left) (ltb 0 sell.left && leb sell.price buy.price) e in (
        ltb-true 0 buy.left a,
        ltb-true 0 sell.left (and_left (ltb 0 sell.left) (leb sell.price buy.price) r),
        leb-true sell.price buy.price (and_right (ltb 0 sell.left) (leb sell.price buy.price) r),
      )

  -- they no longer do
  crossing_false : crossing buy sell ≡ false → 0 < buy.left → 0 < sell.left → buy.price < sell.price
  unfolding crossing
  crossing_false e b s =
      leb-false sell.price buy.price (rw (lt-ltb 0 buy.left b, lt-ltb 0 sell.left s) at e)

module _ (rows : List Order) (ranked : Ranked rows) {middle end : ℕ} (w : Stretches rows middle end) where
  abbrev book : List Order
  book = rows

  ranged_buys : (at : ℕ) → Each InRange (line at middle rows)
  unfolding line
  ranged_buys at = each_drop InRange at (take middle book) w.priced_buys

  ranged_sells : (at : ℕ) → Each InRange (line at end rows)
  unfolding line
  ranged_sells at = each_drop InRange at (take end book) w.priced_sells

  pub walked_start :
      {buy sell : Head}
      → buy ≡ head_of 0 (line 0 middle rows)
      → sell ≡ head_of middle (line middle end rows)
      → Walked rows middle end (record { shares = 0; buy = 1_000_000; sell = 0 }) buy sell
  walked_start {buy} {sell} hb hs =
      record {
        buys =
            taken_start 0 middle (queue 0 book) rows w.short_buys w.full_buys 0 1_000_000 w.buys
            (queue_falls 0 book ranked.stands) any_buy no_dearer hb (ap (λ (x : Head). x.at) hb ∙ place 0 (line 0 middle rows));
        sells =
            taken_start 1 end (queue 1 book) rows w.short_sells w.full_sells middle 0 w.sells
            (queue_falls 1 book ranked.stands) any_sell no_cheaper hs (ap (λ (x : Head). x.at) hs ∙ place middle (line middle end rows));
        buying = rw hb (placed_first middle rows w.short_buys w.full_buys 0);
        selling = rw hs (placed_first end rows w.short_sells w.full_sells middle);
        buy_priced = rw hb (first_priced 0 (line 0 middle rows) (ranged_buys 0));
        sell_priced = rw hs (first_priced middle (line middle end rows) (ranged_sells middle));
        order = omega arith;
        bottom = λ h. absurd (omega arith);
        top = λ h. absurd (omega arith);
      }
    where
      any_buy : (p : ℕ) → p ≤ 1_000_000 → meets 0 1_000_000 p ≡ true
      any_buy p k = unfold meets in le-leb p 1_000_000 k

      no_dearer : Each (λ x. NoBetter 0 1_000_000 x.price) (queue 0 book)
      no_dearer =
          rw (sym w.buys)
          (each InRange (λ x. NoBetter 0 1_000_000 x.price) (line 0 middle rows)
          (λ x k p e. unfold meets in le-leb p 1_000_000 (omega (arith, leb-true p x.price e, k.high)))
          (ranged_buys 0))

      any_sell : (p : ℕ) → p ≤ 1_000_000 → meets 1 0 p ≡ true
      any_sell p k = unfold meets in le-leb 0 p (omega arith)

      no_cheaper : Each (λ x. NoBetter 1 0 x.price) (queue 1 book)
      no_cheaper = every (λ (x : Order). NoBetter 1 0 x.price) (queue 1 book) (λ x p e. unfold meets in le-leb 0 p (omega arith))

      place : (at : ℕ) (os : List Order) → (head_of at os).at ≡ at
      place at [] = unfold head_of in refl
      place at (o ∷ os) = unfold head_of in refl

  module _ {c : Crossed} {buy sell : Head} (k : Walked rows middle end c buy sell) (meet : crossing buy sell ≡ true) {q : ℕ} (hq : q ≡ min buy.left sell.left) where
    there : (0 < buy.left) × (0 < sell.left) × (sell.price ≤ buy.price)
    there = crossing_true buy sell meet

    pub buy_inside : buy.at < middle
    buy_inside = ⊎_elim (λ x. x.1) (λ x. absurd (omega (arith, x.0, there.0))) k.buying

    pub sell_inside : sell.at < end
    sell_inside = ⊎_elim (λ x. x.1) (λ x. absurd (omega (arith, x.0, there.1))) k.selling

    pub shares_fit_lem : c.shares + q < 2 ^ 64
    shares_fit_lem =
        omega (arith, taken_fits book middle rows ranked k.buys, head_reach middle rows buy there.0, there.0, there.1)

    pub walk_less : {b : Head} → b ≡ head_past q buy (line (buy.at + 1) middle rows) → reach 0 0 (waiting b (line (b.at + 1) middle rows)) < reach 0 0 (waiting buy (line (buy.at + 1) middle rows))
    walk_less e =
        reach_falls middle rows w.short_buys w.full_buys k.buys there.0 (omega arith)
        (omega (arith, there.0, there.1)) e

    pub walked_next :
        {c' : Crossed} {b s : Head}
        → c' ≡ crossed_by c q buy.price sell.price
        → b ≡ head_past q buy (line (buy.at + 1) middle rows)
        → s ≡ head_past q sell (line (sell.at + 1) end rows)
        → Walked rows middle end c' b s
    unfolding crossed_by
    walked_next {c'} {b} {s} hc hb hs =
        let one : 1 ≤ q = omega (arith, there.0, there.1) in
        rw hc
        (record {
          buys = taken_next 0 middle (queue 0 book) rows w.short_buys w.full_buys k.buys there.0 q (omega arith) one hb refl;
          sells = taken_next 1 end (queue 1 book) rows w.short_sells w.full_sells k.sells there.1 q (omega arith) one hs refl;
          buying = rw hb (placed_past middle rows w.short_buys w.full_buys q buy buy_inside);
          selling = rw hs (placed_past end rows w.short_sells w.full_sells q sell sell_inside);
          buy_priced = rw hb (past_priced q buy (line (buy.at + 1) middle rows) k.buy_priced (ranged_buys (buy.at + 1)));
          sell_priced = rw hs (past_priced q sell (line (sell.at + 1) end rows) k.sell_priced (ranged_sells (sell.at + 1)));
          order = there.2;
          bottom = λ h. (k.sell_priced there.1).low;
          top = λ h. (k.buy_priced there.0).high;
        })

  -- ---- where it ends
  module _ {c : Crossed} {buy sell : Head} (k : Walked rows middle end c buy sell) (done : crossing buy sell ≡ false) where
    b : Buys book c.shares c.buy buy.left buy.price
    b = buys_stop (stops 0 book middle rows k.buys k.buying)

    s : Sells book c.shares c.sell sell.left sell.price
    s = sells_stop (stops 1 book end rows k.sells k.selling)

    low_is : (higher c.sell buy ≡ c.sell) ⊎ ((0 < buy.left) × (higher c.sell buy ≡ buy.price))
    unfolding higher
    low_is = elim (ℕ_discrete buy.left 0) [
      | yes z ↦ inl (rw (eq-eqb buy.left 0 z))
      | no z ↦ elim (dec_lt c.sell buy.price) [
        | yes l ↦ inr (omega arith, rw (ne_eqb buy.left 0 z) (omega arith))
        | no l ↦ inl (rw (ne_eqb buy.left 0 z) (omega arith))
      ]
    ]

    low_bounds : (c.sell ≤ higher c.sell buy) × (0 < buy.left → buy.price ≤ higher c.sell buy)
    unfolding higher
    low_bounds = elim (ℕ_discrete buy.left 0) [
      | yes z ↦ (rw (eq-eqb buy.left 0 z) (omega arith), λ x. absurd (omega arith))
      | no z ↦ (rw (ne_eqb buy.left 0 z) (omega arith), λ x. rw (ne_eqb buy.left 0 z) (omega arith))
    ]

    high_is : (lower c.buy sell ≡ c.buy) ⊎ ((0 < sell.left) × (lower c.buy sell ≡ sell.price))
    unfolding lower
    high_is = elim (ℕ_discrete sell.left 0) [
      | yes z ↦ inl (rw (eq-eqb sell.left 0 z))
      | no z ↦ elim (dec_lt sell.price c.buy) [
        | yes l ↦ inr (omega arith, rw (ne_eqb sell.left 0 z) (omega arith))
        | no l ↦ inl (rw (ne_eqb sell.left 0 z) (omega arith))
      ]
    ]

    high_bounds : (lower c.buy sell ≤ c.buy) × (0 < sell.left → lower c.buy sell ≤ sell.price)
    unfolding lower
    high_bounds = elim (ℕ_discrete sell.left 0) [
      | yes z ↦ (rw (eq-eqb sell.left 0 z) (omega arith), λ x. absurd (omega arith))
      | no z ↦ (rw (ne_eqb sell.left 0 z) (omega arith), λ x. rw (ne_eqb sell.left 0 z) (omega arith))
    ]

    span_is : span_of c buy sell ≡ ends (qualifying book)
    unfolding span_of
    span_is = elim (ℕ_discrete c.shares 0) [
      | yes z ↦ rw (eq-eqb c.shares 0 z) (none_crossed book b s (crossing_false buy sell done) z)
      | no z ↦
          rw (ne_eqb c.shares 0 z)
          (some_crossed book b s (crossing_false buy sell done) (omega arith) k.order (k.bottom (omega arith)) (k.top (omega arith))
          (λ x. (k.buy_priced x).high) (λ x. (k.sell_priced x).high) low_bounds.0 low_bounds.1 low_is high_bounds.0 high_bounds.1 high_is)
    ]

    -- ---- and what is left at the ends of the span

    buys_left :
        (p : ℕ)
        → p ≤ 1_000_000
        → p ≤ c.buy
        → (0 < buy.left → buy.price ≤ p)
        → demand book p ≡ c.shares + left_at p buy (line (buy.at + 1) middle rows)
    unfolding meets
    buys_left p h l n =
        sym (interest_buys book p)
        ∙ left_over_lem 0 book middle rows k.buys k.buying p h (le-leb p c.buy l)
        (λ x i e. le-leb i p (omega (arith, leb-true i buy.price e, n x)))

    sells_left :
        (p : ℕ)
        → p ≤ 1_000_000
        → c.sell ≤ p
        → (0 < sell.left → p ≤ sell.price)
        → supply book p ≡ c.shares + left_at p sell (line (sell.at + 1) end rows)
    unfolding meets
    sells_left p h l n =
        sym (interest_sells book p)
        ∙ left_over_lem 1 book end rows k.sells k.selling p h (le-leb c.sell p l)
        (λ x i e. le-leb p i (omega (arith, leb-true sell.price i e, n x)))

    module _ (some : 1 ≤ c.shares) (apart : higher c.sell buy < lower c.buy sell) where
      abbrev lo : ℕ
      lo = higher c.sell buy

      abbrev hi : ℕ
      hi = lower c.buy sell

      inside : hi ≤ 1_000_000
      inside = omega (arith, high_bounds.0, k.top some)

      low_left : left_at lo buy (line (buy.at + 1) middle rows) ≡ gap book lo
      unfolding gap distance
      low_left =
          omega (
            arith,
            buys_left lo (omega (arith, inside)) (omega (arith, high_bounds.0)) low_bounds.1,
            s.at_least_lem lo (omega (arith, inside)) low_bounds.0,
            s.at_most lo (omega (arith, inside)) (λ x. omega (arith, high_bounds.1 x)),
          )

      high_left : left_at hi sell (line (sell.at + 1) end rows) ≡ gap book hi
      unfolding gap distance
      high_left =
          omega (
            arith,
            sells_left hi inside (omega (arith, low_bounds.0)) high_bounds.1,
            b.at_least_lem hi inside high_bounds.0,
            b.at_most hi inside (λ x. omega (arith, low_bounds.1 x)),
          )

    -- ---- and at each price of the span

    module _ (some : 1 ≤ c.shares) (p : ℕ) (from_lo : higher c.sell buy ≤ p) (to_hi : p ≤ lower c.buy sell) where
      in_range_lem : p ≤ 1_000_000
      in_range_lem = omega (arith, high_bounds.0, k.top some)

      demand_there : demand book p ≡ c.shares + left_at p buy (line (buy.at + 1) middle rows)
      demand_there = buys_left p in_range_lem (omega (arith, high_bounds.0)) (λ x. omega (arith, low_bounds.1 x))

      supply_there : supply book p ≡ c.shares + left_at p sell (line (sell.at + 1) end rows)
      supply_there = sells_left p in_range_lem (omega (arith, low_bounds.0)) (λ x. omega (arith, high_bounds.1 x))

      -- of one side nothing is left there
      one_fills : (demand book p ≤ c.shares) ⊎ (supply book p ≤ c.shares)
      one_fills = elim (dec_lt 0 sell.left) [
        | no l ↦ inr (s.at_most p in_range_lem (λ x. absurd (l x)))
        | yes l ↦ elim (dec_lt p sell.price) [
          | yes i ↦ inr (s.at_most p in_range_lem (λ x. i))
          | no i ↦ inl (b.at_most p in_range_lem (λ x. omega (arith, crossing_false buy sell done x l)))
        ]
      ]

      fills_at : FillsAt rows middle end (record { crossed = c; buy = buy; sell = sell }) p
      unfolding volume
      fills_at =
          record {
            trades = ⊎_elim (λ x. omega (arith, demand_there, supply_there)) (λ x. omega (arith, demand_there, supply_there)) one_fills;
            buys = sym demand_there;
            sells = sym supply_there;
          }

    pub walked_end : StopOf rows middle end (record { crossed = c; buy = buy; sell = sell })
    unfolding span_of
    walked_end =
        record {
          span = span_is;
          low = elim (ℕ_discrete c.shares 0) [
            | yes z ↦ rw (eq-eqb c.shares 0 z) (λ l. absurd (omega arith))
            | no z ↦ rw (ne_eqb c.shares 0 z) (low_left (omega arith))
          ];
          high = elim (ℕ_discrete c.shares 0) [
            | yes z ↦ rw (eq-eqb c.shares 0 z) (λ l. absurd (omega arith))
            | no z ↦ rw (ne_eqb c.shares 0 z) (high_left (omega arith))
          ];
          fills = elim (ℕ_discrete c.shares 0) [
            | yes z ↦ rw (eq-eqb c.shares 0 z) (λ p i l h. absurd (omega arith))
            | no z ↦ rw (ne_eqb c.shares 0 z) (λ p i l h. fills_at (omega arith) p l h)
          ];
          buying = λ x. ⊎_elim (λ y. y.1) (λ y. absurd (omega (arith, y.0))) k.buying;
          selling = λ x. ⊎_elim (λ y. y.1) (λ y. absurd (omega (arith, y.0))) k.selling;
        }
