-- The qualifying prices where a walk along both sides has ended, from what either side has at each price.
use Prim.Native.Nat.{ℕ, ◌+◌, ◌-◌, ◌≤◌, ◌<◌}
use mathlib.Core.Path.{◌≡◌, refl}
use mathlib.Core.List.{List}
use mathlib.Core.Logic.{◌⊎◌, ⊎_elim}
use native.Mathlib.Decide.{dec_lt}
use native.Mathlib.Omega.{arith}
use borrow.Author.Tests.{le-leb, lt-leb}
use Rattle.model.specs.declared.Order.{Order}
use Rattle.model.specs.Matching.{meets}
use Rattle.model.specs.Auction.{demand, supply, qualifying}
use Rattle.model.proofs.Bools.{not_true_false, not_false_true}
use Rattle.book.specs.declared.Head.{Head}
use Rattle.auction.specs.Spans.{ends, turn_of}
use Rattle.auction.proofs.Sides.{interest_buys, interest_sells}
use Rattle.auction.proofs.Conditions.{SellsCover, BuysCover}
use Rattle.auction.proofs.Turning.{sells_turned, turned_sells, buys_unturned, unturned_buys, Turns, turns_is, turn_law}
use Rattle.auction.proofs.Spanning.{some_span, no_span}
use Rattle.auction.proofs.Walks.{Stops}

-- ---- a side's shares at a price, in numbers

pub record Buys (book : List Order) (v m left price : ℕ) : Type 0 where
  pub at_least_lem : (p : ℕ) → p ≤ 1_000_000 → p ≤ m → v ≤ demand book p
  pub below : (p : ℕ) → p ≤ 1_000_000 → m < p → demand book p < v
  pub at_most : (p : ℕ) → p ≤ 1_000_000 → (0 < left → price < p) → demand book p ≤ v
  pub above : (p : ℕ) → p ≤ 1_000_000 → 0 < left → p ≤ price → v < demand book p

pub record Sells (book : List Order) (v m left price : ℕ) : Type 0 where
  pub at_least_lem : (p : ℕ) → p ≤ 1_000_000 → m ≤ p → v ≤ supply book p
  pub below : (p : ℕ) → p ≤ 1_000_000 → p < m → supply book p < v
  pub at_most : (p : ℕ) → p ≤ 1_000_000 → (0 < left → p < price) → supply book p ≤ v
  pub above : (p : ℕ) → p ≤ 1_000_000 → 0 < left → price ≤ p → v < supply book p

pub buys_stop : {book : List Order} {v m : ℕ} {h : Head} → Stops 0 book v m h → Buys book v m h.left h.price
unfolding meets
buys_stop {book} {v} {m} {h} s =
    record {
      at_least_lem = λ p k l. rw (interest_buys book p) at (s.at_least_lem p k (le-leb p m l));
      below = λ p k l. rw (interest_buys book p) at (s.below p k (lt-leb p m l));
      at_most = λ p k f. rw (interest_buys book p) at (s.at_most p k (λ x. lt-leb p h.price (f x)));
      above = λ p k x l. rw (interest_buys book p) at (s.above p k x (le-leb p h.price l));
    }

pub sells_stop : {book : List Order} {v m : ℕ} {h : Head} → Stops 1 book v m h → Sells book v m h.left h.price
unfolding meets
sells_stop {book} {v} {m} {h} s =
    record {
      at_least_lem = λ p k l. rw (interest_sells book p) at (s.at_least_lem p k (le-leb m p l));
      below = λ p k l. rw (interest_sells book p) at (s.below p k (lt-leb m p l));
      at_most = λ p k f. rw (interest_sells book p) at (s.at_most p k (λ x. lt-leb h.price p (f x)));
      above = λ p k x l. rw (interest_sells book p) at (s.above p k x (le-leb h.price p l));
    }

-- ---- the qualifying prices

module _
    (book : List Order) {v mb bl bp ms sl sp : ℕ}
    (b : Buys book v mb bl bp) (s : Sells book v ms sl sp)
    (apart : 0 < bl → 0 < sl → bp < sp)
  where
    -- where nothing trades, none qualifies
    pub none_crossed : v ≡ 0 → record { lo = 0; hi = 0 } ≡ ends (qualifying book)
    none_crossed z = no_span book {lo = turn_of book 1} {end = turn_of book 0} refl refl (elim (dec_lt (turn_of book 1) (turn_of book 0)) [
      | no l ↦ omega arith
      | yes l ↦
          let t : Turns book 1 (turn_of book 1) = turn_law book 1 in
          let u : Turns book 0 (turn_of book 0) = turn_law book 0 in
          let p : ℕ = turn_of book 1 in
          let top : p ≤ 999_999 = omega (arith, u.to_1000000) in
          let c : SellsCover book p = sells_turned book p (t.after p (omega arith) top) in
          let d : BuysCover book p = buys_unturned book p (u.before p t.from_1 l) in
          absurd (contrary p top d.some c.some)
    ])
      where
        contrary : (p : ℕ) → p ≤ 999_999 → 1 ≤ demand book p → 1 ≤ supply book p → ⊥
        contrary p k d u = elim (dec_lt 0 bl) [
          | no l ↦ omega (arith, b.at_most p (omega arith) (λ x. absurd (l x)))
          | yes l ↦ elim (dec_lt 0 sl) [
            | no j ↦ omega (arith, s.at_most p (omega arith) (λ x. absurd (j x)))
            | yes j ↦ elim (dec_lt bp p) [
              | yes i ↦ omega (arith, b.at_most p (omega arith) (λ x. i))
              | no i ↦ omega (arith, s.at_most p (omega arith) (λ x. omega (arith, apart l j)))
            ]
          ]
        ]

    module _
        (some : 1 ≤ v) (order : ms ≤ mb) (bottom : 1 ≤ ms) (top : mb ≤ 999_999)
        (bps : 0 < bl → bp ≤ 999_999) (sps : 0 < sl → sp ≤ 999_999)
        {lo hi : ℕ}
        (lo-sell : ms ≤ lo) (lo-buy : 0 < bl → bp ≤ lo) (lo-is : (lo ≡ ms) ⊎ ((0 < bl) × (lo ≡ bp)))
        (hi-buy : hi ≤ mb) (hi-sell : 0 < sl → hi ≤ sp) (hi-is : (hi ≡ mb) ⊎ ((0 < sl) × (hi ≡ sp)))
      where
        lo_top : lo ≤ 999_999
        lo_top = ⊎_elim (λ e. omega arith) (λ k. omega (arith, bps k.0, k.1)) lo-is

        sells_turn : Turns book 1 lo
        sells_turn =
            record {
              from_1 = omega arith;
              ordered = omega arith;
              to_1000000 = omega (arith, lo_top);
              before = λ p h k. not_true_false (λ e. before p k (sells_turned book p e).cover);
              after = λ p h k.
                  turned_sells book p
                  (record {
                    some = omega (arith, s.at_least_lem p (omega arith) (omega arith));
                    cover =
                        omega (
                          arith,
                          s.at_least_lem p (omega arith) (omega arith),
                          b.at_most (p + 1) (omega arith) (λ x. omega (arith, lo-buy x)),
                        );
                  });
            }
          where
            before : (p : ℕ) → p < lo → demand book (p + 1) ≤ supply book p → ⊥
            before p k c =
                ⊎_elim
                (λ e.
                omega (
                  arith,
                  s.below p (omega (arith, lo_top)) (omega arith),
                  b.at_least_lem (p + 1) (omega (arith, lo_top)) (omega arith),
                ))
                (λ e.
                omega (
                  arith,
                  b.above (p + 1) (omega (arith, lo_top)) e.0 (omega (arith, e.1)),
                  s.at_most p (omega (arith, lo_top)) (λ x. omega (arith, apart e.0 x, e.1)),
                ))
                lo-is

        buys_turn : Turns book 0 (hi + 1)
        buys_turn =
            record {
              from_1 = omega arith;
              ordered = omega arith;
              to_1000000 = omega arith;
              before = λ p h k.
                  unturned_buys book p
                  (record {
                    some = omega (arith, b.at_least_lem p (omega arith) (omega arith));
                    cover =
                        omega (
                          arith,
                          b.at_least_lem p (omega arith) (omega arith),
                          s.at_most (p - 1) (omega arith) (λ x. omega (arith, hi-sell x)),
                        );
                  });
              after = λ p h k. not_false_true (λ e. after p h k (buys_unturned book p e).cover);
            }
          where
            after : (p : ℕ) → hi + 1 ≤ p → p ≤ 999_999 → supply book (p - 1) ≤ demand book p → ⊥
            after p h k c =
                ⊎_elim
                (λ e. omega (arith, b.below p (omega arith) (omega arith), s.at_least_lem (p - 1) (omega arith) (omega arith)))
                (λ e.
                omega (
                  arith,
                  s.above (p - 1) (omega arith) e.0 (omega (arith, e.1)),
                  b.at_most p (omega arith) (λ x. omega (arith, apart x e.0, e.1)),
                ))
                hi-is

        -- the next sell is not below the last one, nor the next buy above the last one
        sell_later : 0 < sl → ms ≤ sp
        sell_later x = elim (dec_lt sp ms) [
          | no l ↦ omega arith
          | yes l ↦ absurd (omega (arith, s.above sp (omega (arith, sps x)) x (omega arith), s.below sp (omega (arith, sps x)) l))
        ]

        buy_later : 0 < bl → bp ≤ mb
        buy_later x = elim (dec_lt mb bp) [
          | no l ↦ omega arith
          | yes l ↦ absurd (omega (arith, b.above bp (omega (arith, bps x)) x (omega arith), b.below bp (omega (arith, bps x)) l))
        ]

        some_left : lo ≤ hi
        some_left =
            ⊎_elim
            (λ e. ⊎_elim (λ f. omega arith) (λ f. omega (arith, sell_later f.0, f.1)) hi-is)
            (λ e. ⊎_elim (λ f. omega (arith, buy_later e.0, e.1)) (λ f. omega (arith, apart e.0 f.0, e.1, f.1)) hi-is)
            lo-is

        pub some_crossed : record { lo = lo; hi = hi } ≡ ends (qualifying book)
        some_crossed =
            let e : hi + 1 - 1 ≡ hi = omega arith in
            rw e at
            (some_span book {lo = lo} {end = hi + 1} (turns_is book 1 sells_turn) (turns_is book 0 buys_turn) (omega (arith, some_left)))
