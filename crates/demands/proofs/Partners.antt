-- Who trades in an auction: every trade joins an order of either side whose limit allows the price. Assumes nothing.
use Prim.Native.Nat.{ℕ, zero, suc, ◌+◌, ◌-◌, ◌≤◌, ◌<◌, min}
use mathlib.Core.Path.{◌≡◌, refl, sym, ◌∙◌}
use mathlib.Core.Bool.{Bool, true, false, cond}
use mathlib.Core.Logic.{inl, inr}
use mathlib.Core.List.{List, [], ◌∷◌}
use native.Mathlib.Decide.{dec_lt}
use native.Mathlib.Omega.{arith}
use lib.ListN.{length}
use lib.Dec.{ltb}
use borrow.Author.Tests.{leb-true}
use Rattle.model.specs.declared.Order.{Order}
use Rattle.model.specs.declared.Trade.{Trade}
use Rattle.model.specs.Book.{queue}
use Rattle.model.specs.Matching.{meets}
use Rattle.model.specs.Auction.{volume}
use Rattle.model.specs.Pairing.{Share, cut, head_less, pair, trades_at}
use Rattle.model.specs.Words.{Each, Some}
use Rattle.book.specs.Standing.{Standing}
use Rattle.book.proofs.Lists.{each}
use Rattle.book.proofs.Best.{InTurn, queue_in_turn}
use Rattle.auction.specs.Walks.{reach}
use Rattle.auction.proofs.Sides.{interest_buys, interest_sells}
use Rattle.auction.proofs.Walks.{interest_reach, reach_next}
use Rattle.pairing.proofs.Turns.{cut_some, cut_nothing, cut_nobody}
use Rattle.pairing.proofs.Uncrossing.{behind_out, none_in}
use Rattle.demands.proofs.Elements.{some_map}

-- ---- a queue cut to no more than trades at x: each share is of an order that may trade there

module _ (side x : ℕ) where
  -- an order of this number may trade at x
  abbrev Allowed : List Order → ℕ → Type 0
  Allowed os n = Some (λ o. (o.number ≡ n) × (meets side o.price x ≡ true)) os

  nobody : (o : Order) (os : List Order) → meets side o.price x ≡ false → InTurn side (o ∷ os) → reach side x (o ∷ os) ≡ 0
  nobody o os e r =
      let z : reach side x os ≡ 0 = unfold reach in none_in side x (λ p. p.left) os (behind_out side x o os e r.0) in
      let n : reach side x (o ∷ os) ≡ 0 + reach side x os = reach_next side x o os ∙ rw e in
      omega arith

  cut_allowed :
      (v : ℕ) (os : List Order)
      → InTurn side os
      → v ≤ reach side x os
      → Each (λ (s : Share). Allowed os s.number) (cut v os)
  cut_allowed v [] r h = rw (cut_nobody v) tt
  cut_allowed v (o ∷ os) r h = elim (dec_lt 0 v) [
    | yes k ↦ go k (meets side o.price x) refl (cut_allowed (v - o.left) os r.1)
    | no k ↦ let z : v ≡ 0 = omega arith in rw (z, cut_nothing (o ∷ os)) tt
  ]
    where
      go :
          0 < v
          → (b : Bool)
          → meets side o.price x ≡ b
          → (v - o.left ≤ reach side x os → Each (λ (s : Share). Allowed os s.number) (cut (v - o.left) os))
          → Each (λ (s : Share). Allowed (o ∷ os) s.number) (cut v (o ∷ os))
      go k true e f =
          let n : reach side x (o ∷ os) ≡ o.left + reach side x os = reach_next side x o os ∙ rw e in
          rw (cut_some v o os k) (
            inl (refl, e),
            each (λ (s : Share). Allowed os s.number) (λ (s : Share). Allowed (o ∷ os) s.number) (cut (v - o.left) os) (λ s a. inr a)
                (f (omega arith)),
          )
      go k false e f = let z = nobody o os e r in absurd (omega arith)

-- ---- pairing takes its numbers from the shares

abbrev Among : List Share → ℕ → Type 0
Among ss n = Some (λ s. s.number ≡ n) ss

among_head : (q : ℕ) (s : Share) (ss : List Share) (n : ℕ) → Among (head_less q s ss) n → Among (s ∷ ss) n
unfolding head_less
among_head q s ss n = go (ltb q s.left)
  where
    go : (b : Bool) → Among (cond b (record { number = s.number; left = s.left - q; whole = s.whole - q } ∷ ss) ss) n → Among (s ∷ ss) n
    go true a = a
    go false a = inr a

pair_among :
    (turns p : ℕ) (bs ss : List Share) → Each (λ (t : Trade). Among bs t.buyer × Among ss t.seller) (pair turns p bs ss)
unfolding pair
pair_among zero p bs ss = tt
pair_among (suc turns) p [] ss = tt
pair_among (suc turns) p (b ∷ bs) [] = tt
pair_among (suc turns) p (b ∷ bs) (s ∷ ss) =
    let q : ℕ = min b.left s.left in (
      (inl refl, inl refl),
      each (λ (t : Trade). Among (head_less q b bs) t.buyer × Among (head_less q s ss) t.seller)
          (λ (t : Trade). Among (b ∷ bs) t.buyer × Among (s ∷ ss) t.seller) (pair turns p (head_less q b bs) (head_less q s ss))
          (λ t a. (among_head q b bs t.buyer a.0, among_head q s ss t.seller a.1))
          (pair_among turns p (head_less q b bs) (head_less q s ss)),
    )

-- ---- together

found :
    (side x : ℕ) (os : List Order) (n : ℕ) (ss : List Share)
    → Each (λ (s : Share). Allowed side x os s.number) ss
    → Among ss n
    → Allowed side x os n
found side x os n [] e a = elim a [ ]
found side x os n (s ∷ ss) e (inl a) = some_map (λ o h. (h.0 ∙ a, h.1)) os e.0
found side x os n (s ∷ ss) e (inr a) = found side x os n ss e.1 a

module _ (p : ℕ) (book : List Order) (s : Standing book) where
  within_demand : volume book p ≤ reach 0 p (queue 0 book)
  unfolding volume
  within_demand = let e = sym (interest_reach book 0 p) ∙ interest_buys book p in omega arith

  within_supply : volume book p ≤ reach 1 p (queue 1 book)
  unfolding volume
  within_supply = let e = sym (interest_reach book 1 p) ∙ interest_sells book p in omega arith

  abbrev Joins : Trade → Type 0
  Joins t =
      Some (λ (o : Order). (o.number ≡ t.buyer) × (p ≤ o.price)) (queue 0 book)
      × Some (λ (o : Order). (o.number ≡ t.seller) × (o.price ≤ p)) (queue 1 book)

  buys_at_lem : (o : Order) → meets 0 o.price p ≡ true → p ≤ o.price
  unfolding meets
  buys_at_lem o e = leb-true p o.price e

  sells_at_lem : (o : Order) → meets 1 o.price p ≡ true → o.price ≤ p
  unfolding meets
  sells_at_lem o e = leb-true o.price p e

  pub partners : Each Joins (trades_at p book)
  unfolding trades_at
  partners =
      let bs = cut (volume book p) (queue 0 book) in
      let ss = cut (volume book p) (queue 1 book) in
      each (λ (t : Trade). Among bs t.buyer × Among ss t.seller) Joins (pair (length bs + length ss) p bs ss)
      (λ t a. (
        some_map (λ o h. (h.0, buys_at_lem o h.1)) (queue 0 book)
            (found 0 p (queue 0 book) t.buyer bs (cut_allowed 0 p (volume book p) (queue 0 book) (queue_in_turn 0 book s) within_demand) a.0),
        some_map (λ o h. (h.0, sells_at_lem o h.1)) (queue 1 book)
            (found 1 p (queue 1 book) t.seller ss (cut_allowed 1 p (volume book p) (queue 1 book) (queue_in_turn 1 book s) within_supply) a.1),
      ))
      (pair_among (length bs + length ss) p bs ss)
