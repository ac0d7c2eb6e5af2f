-- An order keeps the book standing, in every phase: what rests of it has a side, a price, shares and its own number.
use Rattle.std.specs.Prelude.{if◌then◌else◌}
use Prim.Native.Nat.{ℕ, ◌+◌, ◌-◌, ◌≤◌, min, max}
use mathlib.Core.Path.{◌≡◌, refl}
use mathlib.Core.Bool.{Bool, true, false, cond, ◌||◌}
use mathlib.Core.List.{List, ◌∷◌}
use native.Mathlib.Omega.{arith}
use lib.ListN.{length}
use lib.Dec.{eqb}
use borrow.Author.Tests.{eqb-true, eqb-false}
use Rattle.model.specs.declared.Order.{Order}
use Rattle.model.specs.declared.Asked.{Asked}
use Rattle.model.specs.declared.Trade.{Trade}
use Rattle.model.specs.declared.Day.{Day}
use Rattle.model.specs.Lists.{keep, all, total}
use Rattle.model.specs.Book.{is_live, stands_on, queue, best, other}
use Rattle.model.specs.Matching.{within, filled, last_price, settle}
use Rattle.model.specs.Figures.{next_number}
use Rattle.model.specs.Entry.{best_within, entry_price, entry_trades, rest_price}
use Rattle.model.specs.Calls.{joined}
use Rattle.model.specs.Words.{Each}
use Rattle.book.specs.Standing.{Fair, Standing}
use Rattle.book.proofs.Lists.{each}
use Rattle.book.proofs.Best.{best_price}
use Rattle.book.proofs.Kept.{New, new_fresh, standing_with, standing_settle, fresh_settle}
use Rattle.book.proofs.Counting.{orders, queues_orders, has_room, fewer_orders}
use Rattle.matching.proofs.Trades.{Deal}
use Rattle.matching.proofs.EntryLaws.{last_has, taker, each_entry, entry_shares, remainder, orders_then}

module _ (d : Day) (a : Asked) (book : List Order) (standing : Standing book) (price : a.price ≤ 999_999) where
  abbrev ts : List Trade
  ts = entry_trades d a book

  -- ---- its prices are prices

  best_bound : (side : ℕ) → best_within a side book ≤ 999_999
  unfolding best_within within
  best_bound side = go (eqb (best side book) 0) (eqb a.side 0) (best_price side book standing.fair)
    where
      go :
          (b c : Bool)
          → best side book ≤ 999_999
          → cond b 0 (cond c (min (best side book) a.price) (max (best side book) a.price)) ≤ 999_999
      go true c h = omega arith
      go false true h = omega arith
      go false false h = omega arith

  entry_bound : entry_price a book ≤ 999_999
  unfolding entry_price
  entry_bound = go (eqb a.kind 1) (eqb a.kind 2)
    where
      go :
          (b c : Bool)
          → cond b (best_within a (other a.side) book) (cond c (best_within a a.side book) a.price) ≤ 999_999
      go true c = best_bound (other a.side)
      go false true = best_bound a.side
      go false false = price

  pub traded_bound : Each (λ r. r.price ≤ 999_999) ts
  traded_bound =
      each_entry d a book (λ r. r.price ≤ 999_999)
      (each Fair (λ o. stands_on (other a.side) o ≡ true → (r : Trade) → Deal (taker d a book) o r → r.price ≤ 999_999) book
      (λ o f t r h. omega (arith, h.price, f.price))
      standing.fair)

  pub rest_bound : rest_price a ts book ≤ 999_999
  unfolding rest_price
  rest_bound = go (eqb a.kind 3) (eqb a.kind 4) (eqb (filled ts) 0) refl
    where
      go :
          (b c e : Bool)
          → eqb (filled ts) 0 ≡ e
          → cond b 0 (cond c (cond e (best_within a a.side book) (last_price 0 ts)) (entry_price a book)) ≤ 999_999
      go true c e f = omega arith
      go false true true f = best_bound a.side
      go false true false f = last_has (λ p. p ≤ 999_999) 0 ts traded_bound (eqb-false (filled ts) 0 f)
      go false false e f = entry_bound

  -- ---- the book afterwards

  module _
      (number : ℕ) (side : a.side ≤ 1) (quantity : a.quantity ≤ 1_000_000)
      (small : number ≤ 999_999) (new : New number book) where
    -- what rests may stand in the book
    pub fair_rest : (a.quantity - filled ts ≡ 0 → ⊥) → (rest_price a ts book ≡ 0 → ⊥) → Fair (remainder d a book number)
    fair_rest q p =
        record {
          side = side;
          price = rest_bound;
          number = small;
          left = omega arith;
          none = λ e. absurd (new.real e);
          some = λ n. omega arith;
          priced = λ n. omega arith;
        }

    pub entered_standing : Standing (orders_then d a book number)
    unfolding joined
    entered_standing = go (eqb (a.quantity - filled ts) 0) refl (eqb (rest_price a ts book) 0) refl
      where
        go :
            (b : Bool)
            → eqb (a.quantity - filled ts) 0 ≡ b
            → (e : Bool)
            → eqb (rest_price a ts book) 0 ≡ e
            → Standing (cond (b || e) (settle ts book) (remainder d a book number ∷ settle ts book))
        go true x e y = standing_settle ts book standing
        go false x true y = standing_settle ts book standing
        go false x false y =
            standing_with (remainder d a book number) (settle ts book)
            (fair_rest (eqb-false (a.quantity - filled ts) 0 x) (eqb-false (rest_price a ts book) 0 y))
            (fresh_settle ts number book (new_fresh number book new))
            (standing_settle ts book standing)

    -- where the book had a free place, what rests has one
    pub entered_fits :
        all is_live book ≡ false
        → length (queue 0 (orders_then d a book number))
        + length (queue 1 (orders_then d a book number))
        ≤ length book
    entered_fits room =
        omega (
          arith,
          queues_orders (orders_then d a book number) entered_standing.fair,
          one_more,
          fewer_orders ts book,
          has_room book room,
        )
      where
        one_more :
            orders (orders_then d a book number) ≤ orders (settle ts book) + 1
        one_more = unfold joined in go (eqb (a.quantity - filled ts) 0 || eqb (rest_price a ts book) 0)
          where
            go : (b : Bool) → orders (cond b (settle ts book) (remainder d a book number ∷ settle ts book)) ≤ orders (settle ts book) + 1
            go true = omega arith
            go false = unfold keep in pick (is_live (remainder d a book number))
              where
                pick :
                    (b : Bool)
                    → length (cond b (remainder d a book number ∷ keep is_live (settle ts book)) (keep is_live (settle ts book)))
                    ≤ orders (settle ts book) + 1
                pick true = omega arith
                pick false = omega arith

  -- what rests afterwards and what was traded are what rested before and what rests of the order
  pub entered_shares :
      New (next_number d) book
      → total (λ o. o.left) (orders_then d a book (next_number d))
      + filled ts
      ≡ total (λ o. o.left) book + (if eqb (rest_price a ts book) 0 then 0 else (a.quantity - filled ts))
  unfolding joined
  entered_shares new =
      go (entry_shares d a book standing new) (eqb (a.quantity - filled ts) 0) refl (eqb (rest_price a ts book) 0)
    where
      go :
          total (λ o. o.left) (settle ts book) + filled ts ≡ total (λ o. o.left) book
          → (b : Bool)
          → eqb (a.quantity - filled ts) 0 ≡ b
          → (e : Bool)
          → total (λ o. o.left) (cond (b || e) (settle ts book) (remainder d a book (next_number d) ∷ settle ts book))
          + filled ts
          ≡ total (λ o. o.left) book + cond e 0 (a.quantity - filled ts)
      go s true x true = omega arith
      go s true x false = omega (arith, eqb-true (a.quantity - filled ts) 0 x)
      go s false x true = omega arith
      go s false x false = unfold total in omega arith
