-- The shares of fixed-price orders add up: nothing is lost where some of them drop out, where they match, and where one comes in. Assumes
-- nothing.
use Prim.Native.Nat.{ℕ, ◌+◌, ◌*◌, ◌≤◌}
use mathlib.Core.Path.{◌≡◌, refl, ap, ◌∙◌}
use mathlib.Core.Bool.{Bool, true, false, cond, not}
use mathlib.Core.List.{List, [], ◌∷◌}
use native.Mathlib.Decide.{dec_le}
use native.Mathlib.Omega.{arith}
use lib.ListN.{length}
use Rattle.model.specs.declared.Order.{Order}
use Rattle.model.specs.declared.AskedFixed.{AskedFixed}
use Rattle.model.specs.declared.Trade.{Trade}
use Rattle.model.specs.declared.Day.{Day}
use Rattle.model.specs.Lists.{keep, total}
use Rattle.model.specs.Auction.{shares_of}
use Rattle.model.specs.Book.{is_live}
use Rattle.model.specs.Matching.{filled, settle}
use Rattle.model.specs.Figures.{close_price}
use Rattle.model.specs.FixedBook.{is_void, lined}
use Rattle.model.specs.Refusals.{first_of, unsound_fixed}
use Rattle.model.specs.FixedCalls.{arriving, fixed_trades, fixed_rules}
use Rattle.model.specs.Words.{Sound}
use Rattle.book.specs.Standing.{Fair, Standing}
use Rattle.book.proofs.Lists.{each, length_keep}
use Rattle.book.proofs.Kept.{free_left, standing_keep, standing_settle}
use Rattle.book.proofs.Counting.{orders, fewer_orders}
use Rattle.book.proofs.Settlements.{filled_nil, settle_none}
use Rattle.soundness.proofs.SoundDays.{sound_evening}
use Rattle.fixed_demands.specs.Moving.{valid, matched_trades, matched_book}
use Rattle.fixed_demands.proofs.FixedClauses.{fixed_day_lem}
use Rattle.fixed_demands.proofs.Allowed.{Allowed, allowed}
use Rattle.fixed_demands.proofs.Lining.{lined_total}
use Rattle.fixed_demands.proofs.FixedPlaces.{book_stands}
use Rattle.fixed_demands.proofs.Matched.{settled_total}
use Rattle.fixed_demands.proofs.KeptFixed.{arriving_stands, arriving_fit, arriving_total, late, early}
use Rattle.day_demands.proofs.OtherThrough.{resting}

-- those that pass a test, and the others
two_parts : {A : Type 0} (f : A → ℕ) (p : A → Bool) (xs : List A) → total f (keep p xs) + total f (keep (λ x. not (p x)) xs) ≡ total f xs
unfolding keep total
two_parts f p [] = refl
two_parts f p (x ∷ xs) = go (p x) (two_parts f p xs)
  where
    go :
        (b : Bool)
        → total f (keep p xs) + total f (keep (λ y. not (p y)) xs) ≡ total f xs
        → total f (cond b (x ∷ keep p xs) (keep p xs)) + total f (cond (not b) (x ∷ keep (λ y. not (p y)) xs) (keep (λ y. not (p y)) xs))
        ≡ f x + total f xs
    go true h = omega arith
    go false h = omega arith

-- lined up they have what they had
lined_rests : (n : ℕ) (os : List Order) → Standing os → orders os ≤ n → resting (lined n os) ≡ resting os
lined_rests n os s fit =
    lined_total n os fit (λ (o : Order). o.left) free_left
    (each Fair (λ o. o.number ≡ 0 → o.left ≡ 0) os (λ o f z. ap (λ (x : Order). x.left) (f.none z) ∙ free_left) s.fair)

-- a sound book stands
module _ (d : Day) (main book : List Order) (s : Sound d main) (u : unsound_fixed d book ≡ false) where
  stands : Standing book
  stands = book_stands d book (fixed_day_lem d book u) (sound_evening d main s.1).fixed_issued

  -- ---- a cancel

  pub cancelled_adds :
      (p : Order → Bool) → resting (lined (length book) (keep (λ o. not (p o)) book)) + shares_of p book ≡ resting book
  unfolding shares_of
  cancelled_adds p =
      let q : Order → Bool = λ o. not (p o) in
      omega (
        arith,
        two_parts (λ (o : Order). o.left) p book,
        lined_rests (length book) (keep q book) (standing_keep q book stands)
            (omega (arith, length_keep is_live (keep q book), length_keep q book)),
      )

  -- ---- 15:05: void, filled or left

  pub matched_adds :
      (close : ℕ)
      → 2 * filled (matched_trades close book) + resting (matched_book close book) + shares_of (is_void close) book ≡ resting book
  unfolding shares_of
  matched_adds close =
      let q : Order → Bool = λ o. not (is_void close o) in
      let os = valid close book in
      let ts = matched_trades close book in
      let k = standing_keep q book stands in
      omega (
        arith,
        two_parts (λ (o : Order). o.left) (is_void close) book,
        settled_total os k close,
        lined_rests (length book) (settle ts os) (standing_settle ts os k)
            (omega (arith, fewer_orders ts os, length_keep is_live os, length_keep q book)),
      )

-- ---- an order: what it brings is filled, or rests with the others

module _ (d : Day) (a : AskedFixed) (main book : List Order) (room : ℕ) (z : first_of (fixed_rules d a main book room) ≡ 0) where
  abbrev ts : List Trade
  ts = fixed_trades d a book

  abbrev os : List Order
  os = arriving d a book

  k : Allowed d a main book room
  k = allowed d a main book room z

  orders_stand : Standing os
  orders_stand = arriving_stands d a main book room k

  -- until 15:05 nothing trades
  less_by_fills : resting (settle ts os) + 2 * filled ts ≡ resting os
  less_by_fills = elim (dec_le 54_300 d.time) [
    | yes l ↦ rw (late d a main book room k l) (settled_total os orders_stand (close_price d))
    | no l ↦
        rw (early d a main book room k (omega arith), settle_none os orders_stand.fair) (omega (arith, filled_nil))
  ]

  pub entered_adds : 2 * filled ts + resting (lined (length book) (settle ts os)) ≡ a.quantity + resting book
  entered_adds =
      omega (
        arith,
        less_by_fills,
        arriving_total d a main book room k,
        lined_rests (length book) (settle ts os) (standing_settle ts os orders_stand)
            (omega (arith, fewer_orders ts os, arriving_fit d a main book room k)),
      )
