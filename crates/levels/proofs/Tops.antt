-- The prices at the front of a queue, one after the other, are its best prices, and the shares at the front of each are all that
-- stand at it. Assumes nothing.
use Prim.Native.Nat.{ℕ, zero, suc, ◌+◌, ◌≤◌, ◌<◌}
use mathlib.Core.Path.{◌≡◌, refl, sym, ap, ◌∙◌}
use mathlib.Core.Bool.{Bool, true, false, cond, ◌&&◌}
use mathlib.Core.List.{List, [], ◌∷◌, map}
use native.Mathlib.Omega.{arith}
use native.Mathlib.Nat.{not-suc-le-zero, le_of_suc-le-suc}
use lib.ListN.{get_or, take, drop}
use lib.Dec.{eqb}
use borrow.Author.Tests.{eq-eqb, ne_eqb, eqb-true, eqb-false}
use Rattle.model.specs.declared.Order.{Order}
use Rattle.model.specs.declared.Level.{Level}
use Rattle.model.specs.declared.Levels.{Levels}
use Rattle.model.specs.Lists.{keep, total, once}
use Rattle.model.specs.Book.{stands_on, queue}
use Rattle.model.specs.Matching.{five_best}
use Rattle.model.specs.Auction.{shares_of}
use Rattle.model.specs.Figures.{no_level}
use Rattle.model.specs.Screen.{level_at, levels_of}
use Rattle.model.specs.Words.{Each}
use Rattle.book.specs.Standing.{Standing}
use Rattle.book.specs.Priority.{rank}
use Rattle.book.proofs.Lists.{both, every, each_drop, keep_keep, total_kept}
use Rattle.book.proofs.Queues.{total_queue}
use Rattle.matching.proofs.Prices.{once_again, once_new}
use Rattle.matching.proofs.Cuts.{Worsens, prices_of, queue_worsens, no_return, worse}
use Rattle.auction.specs.Tiers.{run_of, alike}
use Rattle.auction.proofs.Sums.{part_is, part_none, shares_end, shares_next}
use Rattle.auction.proofs.Leaving.{run_on, run_off, alike_on, alike_off}
use Rattle.levels.specs.Fronts.{first_level, behind_first, moved_up, shown}

-- ---- the orders behind those at the front that stand at p

abbrev past : ℕ → List Order → List Order
past p os = drop (alike p os) os

drop_none : (n : ℕ) → ◌≡◌ {A = List Order} (drop n []) []
drop_none zero = refl
drop_none (suc n) = refl

past_on : (p : ℕ) (o : Order) (os : List Order) → o.price ≡ p → past p (o ∷ os) ≡ past p os
past_on p o os e = rw (alike_on p o os e)

past_off : (p : ℕ) (o : Order) (os : List Order) → (o.price ≡ p → ⊥) → past p (o ∷ os) ≡ o ∷ os
past_off p o os n = rw (alike_off p o os n)

-- the price of the next order is p, or p does not come any more
module _ (side p : ℕ) (hp : p ≤ 999_999) (o : Order) (os : List Order) (w : Worsens side (rank side p) (prices_of (o ∷ os))) where
  same_on : o.price ≡ p → Worsens side (rank side p) (prices_of os)
  same_on e = rw (sym e) w.2

  no_more : (o.price ≡ p → ⊥) → Each (λ r. r ≡ p → ⊥) (prices_of (o ∷ os))
  no_more n = (
    n,
    no_return side p (rank side o.price) (prices_of os) (worse side p o.price hp w.1 w.0 n) w.2,
  )

-- behind those at p it does not come any more
past_away :
    (side p : ℕ) (os : List Order)
    → p ≤ 999_999
    → Worsens side (rank side p) (prices_of os)
    → Each (λ (o : Order). o.price ≡ p → ⊥) (past p os)
past_away side p [] hp w = rw (drop_none (alike p [])) tt
past_away side p (o ∷ os) hp w = go (eqb o.price p) refl (past_away side p os hp)
  where
    away : (xs : List Order) → Each (λ r. r ≡ p → ⊥) (prices_of xs) → Each (λ (x : Order). x.price ≡ p → ⊥) xs
    away [] e = tt
    away (x ∷ xs) e = (e.0, away xs e.1)

    go :
        (b : Bool)
        → eqb o.price p ≡ b
        → (Worsens side (rank side p) (prices_of os) → Each (λ (x : Order). x.price ≡ p → ⊥) (past p os))
        → Each (λ (x : Order). x.price ≡ p → ⊥) (past p (o ∷ os))
    go true f rest =
        let e : o.price ≡ p = eqb-true o.price p f in
        rw (past_on p o os e) (rest (same_on side p hp o os w e))
    go false f rest =
        let n : o.price ≡ p → ⊥ = eqb-false o.price p f in
        rw (past_off p o os n) (away (o ∷ os) (no_more side p hp o os w n))

-- and the prices go on as they did
past_worsens :
    (side p : ℕ) (os : List Order)
    → p ≤ 999_999
    → Worsens side (rank side p) (prices_of os)
    → Worsens side (rank side p) (prices_of (past p os))
past_worsens side p [] hp w = rw (drop_none (alike p [])) tt
past_worsens side p (o ∷ os) hp w = go (eqb o.price p) refl (past_worsens side p os hp)
  where
    go :
        (b : Bool)
        → eqb o.price p ≡ b
        → (Worsens side (rank side p) (prices_of os) → Worsens side (rank side p) (prices_of (past p os)))
        → Worsens side (rank side p) (prices_of (past p (o ∷ os)))
    go true f rest =
        let e : o.price ≡ p = eqb-true o.price p f in
        rw (past_on p o os e) (rest (same_on side p hp o os w e))
    go false f rest = rw (past_off p o os (eqb-false o.price p f)) w

-- each price once: p, and those behind it
once_run :
    (side p : ℕ) (os : List Order)
    → p ≤ 999_999
    → Worsens side (rank side p) (prices_of os)
    → once (p ∷ prices_of os) ≡ p ∷ once (prices_of (past p os))
once_run side p [] hp w = once_new p [] tt ∙ rw (drop_none (alike p []))
once_run side p (o ∷ os) hp w = go (eqb o.price p) refl (once_run side p os hp)
  where
    go :
        (b : Bool)
        → eqb o.price p ≡ b
        → (Worsens side (rank side p) (prices_of os) → once (p ∷ prices_of os) ≡ p ∷ once (prices_of (past p os)))
        → once (p ∷ o.price ∷ prices_of os) ≡ p ∷ once (prices_of (past p (o ∷ os)))
    go true f rest =
        let e : o.price ≡ p = eqb-true o.price p f in
        once_again p o.price (prices_of os) e
        ∙ rest (same_on side p hp o os w e)
        ∙ ap (λ (l : List Order). p ∷ once (prices_of l)) (sym (past_on p o os e))
    go false f rest =
        let n : o.price ≡ p → ⊥ = eqb-false o.price p f in
        once_new p (prices_of (o ∷ os)) (no_more side p hp o os w n)
        ∙ ap (λ (l : List Order). p ∷ once (prices_of l)) (sym (past_off p o os n))

-- ---- the shares at a price

abbrev shares_at : ℕ → List Order → ℕ
shares_at p os = shares_of (λ o. eqb o.price p) os

module _ (p : ℕ) (o : Order) (os : List Order) where
  shares_on : o.price ≡ p → shares_at p (o ∷ os) ≡ o.left + shares_at p os
  shares_on e =
      omega (
        arith,
        shares_next (λ x. eqb x.price p) o os,
        part_is (eqb o.price p) o.left (eq-eqb o.price p e),
      )

  shares_off : (o.price ≡ p → ⊥) → shares_at p (o ∷ os) ≡ shares_at p os
  shares_off n =
      omega (
        arith,
        shares_next (λ x. eqb x.price p) o os,
        part_none (eqb o.price p) o.left (ne_eqb o.price p n),
      )

shares_away : (p : ℕ) (os : List Order) → Each (λ r. r ≡ p → ⊥) (prices_of os) → shares_at p os ≡ 0
shares_away p [] e = shares_end (λ x. eqb x.price p)
shares_away p (o ∷ os) e = shares_off p o os e.0 ∙ shares_away p os e.1

-- those at the front are all
run_shares :
    (side p : ℕ) (os : List Order)
    → p ≤ 999_999
    → Worsens side (rank side p) (prices_of os)
    → run_of p os ≡ shares_at p os
run_shares side p [] hp w = unfold run_of in sym (shares_end (λ x. eqb x.price p))
run_shares side p (o ∷ os) hp w = go (eqb o.price p) refl (run_shares side p os hp)
  where
    go :
        (b : Bool)
        → eqb o.price p ≡ b
        → (Worsens side (rank side p) (prices_of os) → run_of p os ≡ shares_at p os)
        → run_of p (o ∷ os) ≡ shares_at p (o ∷ os)
    go true f rest =
        let e : o.price ≡ p = eqb-true o.price p f in
        omega (arith, run_on p o os e, shares_on p o os e, rest (same_on side p hp o os w e))
    go false f rest =
        let n : o.price ≡ p → ⊥ = eqb-false o.price p f in
        run_off p o os n ∙ sym (shares_away p (o ∷ os) (no_more side p hp o os w n))

-- the shares at another price stand behind them
past_shares : (p q : ℕ) (os : List Order) → (q ≡ p → ⊥) → shares_at q os ≡ shares_at q (past p os)
past_shares p q [] n = rw (drop_none (alike p []))
past_shares p q (o ∷ os) n = go (eqb o.price p) refl (past_shares p q os n)
  where
    go :
        (b : Bool)
        → eqb o.price p ≡ b
        → shares_at q os ≡ shares_at q (past p os)
        → shares_at q (o ∷ os) ≡ shares_at q (past p (o ∷ os))
    go true f rest =
        let e : o.price ≡ p = eqb-true o.price p f in
        shares_off q o os (λ g. n (sym g ∙ e)) ∙ rest ∙ ap (shares_at q) (sym (past_on p o os e))
    go false f rest = ap (shares_at q) (sym (past_off p o os (eqb-false o.price p f)))

-- ---- the prices at the front, one after the other

-- the k-th of them, from 0
abbrev nth : ℕ → List Order → Level
nth zero os = first_level os
nth (suc k) os = nth k (behind_first os)

behind_none : behind_first [] ≡ []
unfolding behind_first
behind_none = refl

nth_none : (k : ℕ) → nth k [] ≡ no_level
nth_none zero = unfold first_level in refl
nth_none (suc k) = ap (nth k) behind_none ∙ nth_none k

-- f gives each price of the orders the shares that stand at it
abbrev Counts : (ℕ → Level) → List Order → Type 0
Counts f os = Each (λ (o : Order). f o.price ≡ record { price = o.price; shares = shares_at o.price os }) os

module _ (f : ℕ → Level) (side : ℕ) (o : Order) (os : List Order) (small : o.price ≤ 999_999) (w : Worsens side (rank side o.price) (prices_of os)) (c : Counts f (o ∷ os)) where
  first_counts : f o.price ≡ first_level (o ∷ os)
  unfolding first_level
  first_counts =
      let e : shares_at o.price (o ∷ os) ≡ o.left + run_of o.price os =
      omega (arith, shares_on o.price o os refl, run_shares side o.price os small w)
      in
      c.0 ∙ rw e

  behind_counts : Counts f (past o.price os)
  behind_counts =
      both (λ (x : Order). x.price ≡ o.price → ⊥)
      (λ (x : Order). f x.price ≡ record { price = x.price; shares = shares_at x.price (o ∷ os) })
      (λ (x : Order). f x.price ≡ record { price = x.price; shares = shares_at x.price (past o.price os) })
      (past o.price os)
      (λ x n h.
      let e : shares_at x.price (o ∷ os) ≡ shares_at x.price (past o.price os) =
      shares_off x.price o os (λ g. n (sym g)) ∙ past_shares o.price x.price os n
      in
      h ∙ rw e)
      (past_away side o.price os small w)
      (each_drop (λ (x : Order). f x.price ≡ record { price = x.price; shares = shares_at x.price (o ∷ os) })
      (alike o.price os) os c.1)

tops :
    (f : ℕ → Level) (side a n k : ℕ) (os : List Order)
    → k < n
    → Worsens side a (prices_of os)
    → Counts f os
    → get_or (map f (take n (once (prices_of os)))) k no_level ≡ nth k os
tops f side a zero k os l w c = absurd (not-suc-le-zero l)
tops f side a (suc n) k [] l w c = unfold once in sym (nth_none k)
tops f side a (suc n) zero (o ∷ os) l w c =
    ap (λ (ps : List ℕ). get_or (map f (take (suc n) ps)) 0 no_level) (once_run side o.price os w.1 w.2)
    ∙ first_counts f side o os w.1 w.2 c
tops f side a (suc n) (suc k) (o ∷ os) l w c =
    ap (λ (ps : List ℕ). get_or (map f (take (suc n) ps)) (suc k) no_level) (once_run side o.price os w.1 w.2)
    ∙ tops f side (rank side o.price) n k (past o.price os) (le_of_suc-le-suc l)
    (past_worsens side o.price os w.1 w.2)
    (behind_counts f side o os w.1 w.2 c)
    ∙ ap (nth k) (unfold behind_first in refl)

-- ---- of the book

-- the shares that stand at a price in the book are those in its queue
queue_shares :
    (side p : ℕ) (book : List Order)
    → shares_of (λ o. stands_on side o && eqb o.price p) book ≡ shares_at p (queue side book)
unfolding shares_of
queue_shares side p book =
    ap (total (λ o. o.left)) (sym (keep_keep (λ o. eqb o.price p) (stands_on side) book))
    ∙ total_kept (λ o. o.left) (λ o. eqb o.price p) (keep (stands_on side) book)
    ∙ sym (total_queue (λ o. cond (eqb o.price p) o.left 0) side book)
    ∙ sym (total_kept (λ o. o.left) (λ o. eqb o.price p) (queue side book))

queue_counts : (side : ℕ) (book : List Order) → Counts (level_at side book) (queue side book)
unfolding level_at
queue_counts side book =
    every
    (λ (o : Order). level_at side book o.price ≡ record { price = o.price; shares = shares_at o.price (queue side book) })
    (queue side book) (λ o. rw (queue_shares side o.price book))

-- the five lines of a side
pub levels_shown : (side : ℕ) (book : List Order) (ls : Levels) → Standing book → shown 5 (queue side book) ls ≡ levels_of side book
unfolding levels_of five_best shown moved_up
levels_shown side book ls s =
    let at : (k : ℕ) → k < 5 → get_or (map (level_at side book) (take 5 (once (prices_of (queue side book))))) k no_level ≡ nth k (queue side book) =
    λ k l. tops (level_at side book) side 0 5 k (queue side book) l (queue_worsens side book s) (queue_counts side book)
    in
    sym (rw (at 0 (omega arith), at 1 (omega arith), at 2 (omega arith), at 3 (omega arith), at 4 (omega arith)))
