-- After an auction at a qualifying price no buy reaches a sell: each side has less by the volume, taken from the best.
use Rattle.std.specs.Prelude.{if◌then◌else◌}
use Prim.Native.Nat.{ℕ, ◌+◌, ◌-◌, ◌≤◌}
use mathlib.Core.Path.{◌≡◌, refl, sym, ap, ap₂, ◌∙◌}
use mathlib.Core.Bool.{Bool, true, false, ◌&&◌}
use mathlib.Core.List.{List, [], ◌∷◌, map}
use native.Mathlib.Nat.{le_refl}
use native.Mathlib.Decide.{dec_lt, dec_le}
use native.Mathlib.Omega.{arith}
use borrow.Author.Tests.{lt-ltb, le-ltb}
use Rattle.model.specs.declared.Order.{Order}
use Rattle.model.specs.declared.Trade.{Trade}
use Rattle.model.specs.Lists.{total}
use Rattle.model.specs.Book.{free, is_live, stands_on, ahead, queue, best}
use Rattle.model.specs.Matching.{meets, filled_of, less_by, settle}
use Rattle.model.specs.Auction.{demand, supply, volume}
use Rattle.model.specs.Pairing.{cut, trades_at}
use Rattle.model.specs.Sound.{crosses}
use Rattle.model.specs.Words.{Each, Qualifies, granted}
use Rattle.book.specs.Standing.{Standing}
use Rattle.book.proofs.Lists.{each, every, total_same, total_zero, total_kept}
use Rattle.book.proofs.Sorting.{Distinct}
use Rattle.book.proofs.Queues.{total_queue}
use Rattle.book.proofs.Best.{InTurn, queue_in_turn}
use Rattle.book.proofs.Kept.{standing_settle}
use Rattle.auction.specs.Interest.{trades_for, brings, interest}
use Rattle.auction.specs.Walks.{reach}
use Rattle.model.proofs.Bools.{not_both, not_true_false}
use Rattle.auction.proofs.Sides.{interest_next, interest_end, interest_buys, interest_sells, demand_falls, supply_rises}
use Rattle.auction.proofs.Conditions.{volume_is, qualifies_clears}
use Rattle.auction.proofs.Walks.{interest_reach}
use Rattle.auction.proofs.Crossing.{ahead_meets, crosses_told, best_demand, best_supply}
use Rattle.pairing.proofs.Filling.{first_grant, later_grants}
use Rattle.book.proofs.Numbers.{queue_own}
use Rattle.pairing.proofs.Auctioned.{buys_filled, sells_filled}

module _ (side x : ℕ) where
  -- ---- over the book and over the queue
  part_of : (a b : Bool) (n : ℕ) → (if a && b then n else 0) ≡ (if a then (if b then n else 0) else 0)
  part_of true b n = refl
  part_of false b n = refl

  in_queue :
      (h : Order → ℕ) (book : List Order)
      → total (λ o. if trades_for side x o then h o else 0) book ≡ total (λ o. if meets side o.price x then h o else 0) (queue side book)
  unfolding trades_for
  in_queue h book =
      total_same (λ o. if stands_on side o && meets side o.price x then h o else 0)
      (λ o. if stands_on side o then (if meets side o.price x then h o else 0) else 0) book
      (every _ book (λ o. part_of (stands_on side o) (meets side o.price x) (h o)))
      ∙ sym
      (total_queue (λ o. if meets side o.price x then h o else 0) side book
      ∙ total_kept (λ o. if meets side o.price x then h o else 0) (stands_on side) book)

  -- ---- what an order brings when q of it have traded
  free_brings : brings side x free ≡ 0
  unfolding brings trades_for stands_on is_live free
  free_brings = refl

  still_brings :
      (q : ℕ) (o : Order)
      → brings side x (record { side = o.side; account = o.account; left = o.left - q; price = o.price; number = o.number }) ≡ (if trades_for side x o then o.left - q else 0)
  unfolding brings trades_for stands_on is_live
  still_brings q o = refl

  less_brings : (q : ℕ) (o : Order) → brings side x (less_by q o) ≡ (if trades_for side x o then o.left - q else 0)
  unfolding less_by
  less_brings q o = elim (dec_lt q o.left) [
    | yes h ↦ rw (lt-ltb q o.left h) (still_brings q o)
    | no h ↦
        let z : o.left - q ≡ 0 = omega arith in
        rw (le-ltb q o.left (omega arith), z) (free_brings ∙ nothing (trades_for side x o))
  ]
    where
      nothing : (b : Bool) → ◌≡◌ {A = ℕ} 0 (if b then 0 else 0)
      nothing true = refl
      nothing false = refl

  settled :
      (g : Order → ℕ) (os : List Order)
      → interest (map (λ o. less_by (g o) o) os) side x ≡ total (λ o. if trades_for side x o then o.left - g o else 0) os
  unfolding total
  settled g [] = interest_end side x
  settled g (o ∷ os) =
      interest_next (less_by (g o) o) (map (λ o. less_by (g o) o) os) side x
      ∙ ap₂ ◌+◌ (less_brings (g o) o) (settled g os)

  -- ---- what the volume leaves of a queue in priority
  pub behind_out :
      (o : Order) (os : List Order)
      → meets side o.price x ≡ false
      → Each (λ p. ahead side o p ≡ true) os
      → Each (λ p. meets side p.price x ≡ false) os
  behind_out o os e h =
      each (λ p. ahead side o p ≡ true) (λ p. meets side p.price x ≡ false) os
      (λ p a. not_true_false (λ t. not_both (ahead_meets side o p x a t) e)) h

  pub none_in :
      (h : Order → ℕ) (os : List Order)
      → Each (λ p. meets side p.price x ≡ false) os
      → total (λ o. if meets side o.price x then h o else 0) os ≡ 0
  none_in h os e =
      total_zero (λ o. if meets side o.price x then h o else 0) os
      (each (λ p. meets side p.price x ≡ false) (λ o. (if meets side o.price x then h o else 0) ≡ 0) os (λ o z. rw z) e)

  left_over_lem :
      (v : ℕ) (os : List Order)
      → Distinct (λ o. o.number) os
      → InTurn side os
      → total (λ o. if meets side o.price x then o.left - granted o.number (cut v os) else 0) os ≡ total (λ o. if meets side o.price x then o.left else 0) os - v
  unfolding total
  left_over_lem v [] d r = omega arith
  left_over_lem v (o ∷ os) d r = go (meets side o.price x) refl (left_over_lem (v - o.left) os d.1 r.1)
    where
      tail : List Order → ℕ → ℕ
      tail qs w = total (λ p. if meets side p.price x then p.left - granted p.number (cut w qs) else 0) os

      go :
          (b : Bool)
          → meets side o.price x ≡ b
          → tail os (v - o.left) ≡ total (λ p. if meets side p.price x then p.left else 0) os - (v - o.left)
          → (if b then o.left - granted o.number (cut v (o ∷ os)) else 0) + tail (o ∷ os) v ≡ (if b then o.left else 0) + total (λ p. if meets side p.price x then p.left else 0) os - v
      go true e ih =
          omega (
            arith,
            first_grant v o os d.0,
            total_same (λ p. if meets side p.price x then p.left - granted p.number (cut v (o ∷ os)) else 0)
                (λ p. if meets side p.price x then p.left - granted p.number (cut (v - o.left) os) else 0) os
                (each (λ p. granted p.number (cut v (o ∷ os)) ≡ granted p.number (cut (v - o.left) os)) _ os
                (λ p z. ap (λ n. if meets side p.price x then p.left - n else 0) z) (later_grants v o os d.0)),
          )
      go false e ih =
          let out = behind_out o os e r.0 in
          omega (
            arith,
            none_in (λ p. p.left - granted p.number (cut v (o ∷ os))) os out,
            none_in (λ p. p.left) os out,
          )

  -- a side has less by the volume
  settled_interest :
      (v : ℕ) (book : List Order) (ts : List Trade)
      → Standing book
      → Each (λ o. filled_of o.number ts ≡ granted o.number (cut v (queue side book))) (queue side book)
      → interest (settle ts book) side x ≡ interest book side x - v
  unfolding settle
  settled_interest v book ts s e =
      settled (λ o. filled_of o.number ts) book
      ∙ in_queue (λ o. o.left - filled_of o.number ts) book
      ∙ total_same (λ o. if meets side o.price x then o.left - filled_of o.number ts else 0)
      (λ o. if meets side o.price x then o.left - granted o.number (cut v (queue side book)) else 0) (queue side book)
      (each (λ o. filled_of o.number ts ≡ granted o.number (cut v (queue side book))) _ (queue side book)
      (λ o z. ap (λ n. if meets side o.price x then o.left - n else 0) z) e)
      ∙ left_over_lem v (queue side book) (queue_own book s side) (queue_in_turn side book s)
      ∙ ap (λ n. n - v) (sym (unfold reach in interest_reach book side x))

-- ---- nothing reaches any more
module _ (p : ℕ) (book : List Order) (s : Standing book) where
  pub demand_after : (x : ℕ) → demand (settle (trades_at p book) book) x ≡ demand book x - volume book p
  demand_after x =
      sym (interest_buys (settle (trades_at p book) book) x)
      ∙ settled_interest 0 x (volume book p) book (trades_at p book) s (buys_filled p book s)
      ∙ ap (λ n. n - volume book p) (interest_buys book x)

  pub supply_after : (x : ℕ) → supply (settle (trades_at p book) book) x ≡ supply book x - volume book p
  supply_after x =
      sym (interest_sells (settle (trades_at p book) book) x)
      ∙ settled_interest 1 x (volume book p) book (trades_at p book) s (sells_filled p book s)
      ∙ ap (λ n. n - volume book p) (interest_sells book x)

  no_volume :
      Qualifies book p
      → (r : ℕ)
      → 1 ≤ demand (settle (trades_at p book) book) r
      → 1 ≤ supply (settle (trades_at p book) book) r
      → ⊥
  no_volume k r d u =
      let c = qualifies_clears book k in
      let v = volume_is book p in
      let a = demand_after r in
      let b = supply_after r in
      elim (dec_le r p) [
        | yes h ↦ elim (dec_le p r) [
          | yes h' ↦
              let e : r ≡ p = omega arith in
              let x : demand book r ≡ demand book p = ap (demand book) e in
              let y : supply book r ≡ supply book p = ap (supply book) e in
              omega arith
          | no h' ↦
              let x : supply book r ≤ supply book (p - 1) = supply_rises book (omega arith) in
              let y : supply book (p - 1) ≤ supply book p = supply_rises book (omega arith) in
              omega (arith, c.buys.cover)
        ]
        | no h ↦
            let x : demand book r ≤ demand book (p + 1) = demand_falls book (omega arith) in
            let y : demand book (p + 1) ≤ demand book p = demand_falls book (omega arith) in
            omega (arith, c.sells.cover)
      ]

  pub uncrossed_after : Qualifies book p → crosses (settle (trades_at p book) book) ≡ false
  uncrossed_after k =
      let book' = settle (trades_at p book) book in
      let t = standing_settle (trades_at p book) book s in
      not_true_false
      (λ e.
      let c = crosses_told book' t e in
      no_volume k (best 0 book') (best_demand book' t (best 0 book') c.buys (le_refl (best 0 book')))
      (best_supply book' t (best 0 book') c.sells c.meet))
