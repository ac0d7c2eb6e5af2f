-- What the trades of an auction at a price come to: their prices and money, their number, and what each order is filled.
use Rattle.std.specs.Prelude.{if◌then◌else◌}
use Prim.Native.Nat.{ℕ, ◌+◌, ◌-◌, ◌*◌, ◌≤◌, min}
use mathlib.Core.Path.{◌≡◌, refl, sym, ap, ap₂, ◌∙◌}
use mathlib.Core.Logic.{inl, inr, ⊎_elim}
use mathlib.Core.Bool.{true}
use mathlib.Core.List.{List, [], ◌∷◌}
use native.Mathlib.Nat.{mul-add}
use native.Mathlib.Omega.{arith}
use lib.ListN.{length}
use Rattle.model.specs.declared.Order.{Order}
use Rattle.model.specs.declared.Trade.{Trade}
use Rattle.model.specs.Lists.{keep, total}
use Rattle.model.specs.Book.{is_live, stands_on, queue}
use Rattle.model.specs.Matching.{filled, filled_of, first_price, last_price, settle}
use Rattle.model.specs.Figures.{money}
use Rattle.model.specs.Auction.{shares_of, demand, supply, volume}
use Rattle.model.specs.Pairing.{cut, trades_at}
use Rattle.model.specs.Words.{Each, held, granted}
use Rattle.book.specs.Standing.{Fair, Standing}
use Rattle.book.proofs.Lists.{both, each, total_same, total_kept}
use Rattle.book.proofs.Sorting.{Distinct}
use Rattle.book.proofs.Queues.{Stands, Place, place_of, on_live, queue_stands, total_queue}
use Rattle.book.proofs.Counting.{queues_orders}
use Rattle.book.proofs.Best.{each_on}
use Rattle.book.proofs.Shares.{settle_total}
use Rattle.model.proofs.Bools.{and_left}
use Rattle.auction.proofs.Sums.{shares_le}
use Rattle.auction.proofs.Conditions.{volume_is}
use Rattle.pairing.proofs.Turns.{pairs, cut_short, fewer_trades}
use Rattle.pairing.proofs.Waiting.{shares}
use Rattle.pairing.proofs.Grants.{Filled, pairs_fill, pairs_at, cut_held, in_both}
use Rattle.pairing.proofs.Filling.{no_grant, first_grant, later_grants, grants_within}
use Rattle.book.proofs.Numbers.{times, times_other, none_bears, queue_own}

-- ---- all at one price
pub priced_money : (p : ℕ) (ts : List Trade) → Each (λ t. t.price ≡ p) ts → money ts ≡ p * filled ts
unfolding money filled total
priced_money p [] e = omega arith
priced_money p (t ∷ ts) e =
    ap₂ ◌+◌ (ap (λ n. n * t.quantity) e.0) (priced_money p ts e.1) ∙ sym (mul-add p t.quantity (filled ts))

-- where there is a trade, the first and the last are at that price
pub priced_first : (p : ℕ) (ts : List Trade) → Each (λ t. t.price ≡ p) ts → 1 ≤ filled ts → (q : ℕ) → first_price q ts ≡ p
unfolding first_price filled total
priced_first p [] e h q = absurd (omega arith)
priced_first p (t ∷ ts) e h q = e.0

last_on : (p : ℕ) (ts : List Trade) → Each (λ t. t.price ≡ p) ts → last_price p ts ≡ p
unfolding last_price
last_on p [] e = refl
last_on p (t ∷ ts) e = ap (λ q. last_price q ts) e.0 ∙ last_on p ts e.1

pub priced_last : (p : ℕ) (ts : List Trade) → Each (λ t. t.price ≡ p) ts → 1 ≤ filled ts → (q : ℕ) → last_price q ts ≡ p
unfolding last_price filled total
priced_last p [] e h q = absurd (omega arith)
priced_last p (t ∷ ts) e h q = ap (λ q. last_price q ts) e.0 ∙ last_on p ts e.1

-- ---- both sides

-- a sum over the book is that over its two sides, where free places add nothing
module _ (f : Order → ℕ) (none : (o : Order) → o.number ≡ 0 → f o ≡ 0) where
  at_place : (o : Order) → Place o → f o ≡ (if stands_on 0 o then f o else 0) + (if stands_on 1 o then f o else 0)
  at_place o (inl k) = rw (k.0, k.1) (omega arith)
  at_place o (inr (inl k)) = rw (k.0, k.1) (omega arith)
  at_place o (inr (inr k)) = rw (k.0, k.1) (none o k.2)

  by_place :
      (os : List Order)
      → Each Fair os
      → total f os ≡ total (λ o. if stands_on 0 o then f o else 0) os + total (λ o. if stands_on 1 o then f o else 0) os
  unfolding total
  by_place [] h = refl
  by_place (o ∷ os) h =
      omega (arith, at_place o (place_of o h.0), by_place os h.1)

  pub two_sides : (book : List Order) → Each Fair book → total f book ≡ total f (queue 0 book) + total f (queue 1 book)
  two_sides book e =
      by_place book e
      ∙ ap₂ ◌+◌ (sym (total_queue f 0 book ∙ total_kept f (stands_on 0) book))
      (sym (total_queue f 1 book ∙ total_kept f (stands_on 1) book))

-- neither side has less than the volume
module _ (book : List Order) where
  side_shares : (side : ℕ) → shares_of (stands_on side) book ≡ shares (queue side book)
  unfolding shares_of shares
  side_shares side = sym (total_queue (λ o. o.left) side book)

  pub volume_buys : (p : ℕ) → volume book p ≤ shares (queue 0 book)
  unfolding demand
  volume_buys p =
      let l : demand book p ≤ shares_of (stands_on 0) book = shares_le _ (stands_on 0) (λ o e. and_left (stands_on 0 o) _ e) book in
      omega (arith, volume_is book p, side_shares 0)

  pub volume_sells : (p : ℕ) → volume book p ≤ shares (queue 1 book)
  unfolding supply
  volume_sells p =
      let l : supply book p ≤ shares_of (stands_on 1) book = shares_le _ (stands_on 1) (λ o e. and_left (stands_on 1 o) _ e) book in
      omega (arith, volume_is book p, side_shares 1)

-- what a queue cut to a volume grants, over the queue
grants_total :
    (v : ℕ) (os : List Order)
    → Distinct (λ o. o.number) os
    → total (λ o. granted o.number (cut v os)) os ≡ min v (shares os)
unfolding total shares
grants_total v [] d = omega arith
grants_total v (o ∷ os) d =
    omega (
      arith,
      first_grant v o os d.0,
      total_same (λ p. granted p.number (cut v (o ∷ os))) (λ p. granted p.number (cut (v - o.left) os)) os
          (later_grants v o os d.0),
      grants_total (v - o.left) os d.1,
    )

module _ (p : ℕ) (book : List Order) (s : Standing book) where
  -- each side, cut to the volume, holds it
  buys_hold : held (cut (volume book p) (queue 0 book)) ≡ volume book p
  buys_hold = omega (arith, cut_held (volume book p) (queue 0 book), volume_buys book p)

  sells_hold : held (cut (volume book p) (queue 1 book)) ≡ volume book p
  sells_hold = omega (arith, cut_held (volume book p) (queue 1 book), volume_sells book p)

  pub trades_fill : (n : ℕ) → Filled n (cut (volume book p) (queue 0 book)) (cut (volume book p) (queue 1 book)) (trades_at p book)
  unfolding trades_at pairs
  trades_fill n =
      pairs_fill p n (cut (volume book p) (queue 0 book)) (cut (volume book p) (queue 1 book)) (buys_hold ∙ sym sells_hold)

  -- all trades are at the price
  pub trades_priced : Each (λ t. t.price ≡ p) (trades_at p book)
  unfolding trades_at pairs
  trades_priced = pairs_at p (cut (volume book p) (queue 0 book)) (cut (volume book p) (queue 1 book))

  -- together they are the volume
  pub volume_filled : filled (trades_at p book) ≡ volume book p
  volume_filled = (trades_fill 0).whole ∙ buys_hold

  -- each order is filled what its side, cut to the volume, grants it
  pub buys_filled : Each (λ o. filled_of o.number (trades_at p book) ≡ granted o.number (cut (volume book p) (queue 0 book))) (queue 0 book)
  buys_filled =
      each (λ o. times o.number (queue 1 book) ≡ 0)
      (λ o. filled_of o.number (trades_at p book) ≡ granted o.number (cut (volume book p) (queue 0 book))) (queue 0 book)
      (λ o z.
      let f = trades_fill o.number in
      let g = no_grant o.number (volume book p) (queue 1 book) (none_bears o.number (queue 1 book) z) in
      omega (arith, f.buyer, f.seller, in_both o.number (trades_at p book)))
      (times_other book s 0 1 (omega arith))

  pub sells_filled : Each (λ o. filled_of o.number (trades_at p book) ≡ granted o.number (cut (volume book p) (queue 1 book))) (queue 1 book)
  sells_filled =
      each (λ o. times o.number (queue 0 book) ≡ 0)
      (λ o. filled_of o.number (trades_at p book) ≡ granted o.number (cut (volume book p) (queue 1 book))) (queue 1 book)
      (λ o z.
      let f = trades_fill o.number in
      let g = no_grant o.number (volume book p) (queue 0 book) (none_bears o.number (queue 0 book) z) in
      omega (arith, f.buyer, f.seller, in_both o.number (trades_at p book)))
      (times_other book s 1 0 (omega arith))

  -- no order has the number 0, so nothing is filled of it
  nobody_filled : filled_of 0 (trades_at p book) ≡ 0
  nobody_filled =
      let f = trades_fill 0 in
      let b = no_grant 0 (volume book p) (queue 0 book) (live_only 0) in
      let c = no_grant 0 (volume book p) (queue 1 book) (live_only 1) in
      omega (arith, f.buyer, f.seller, in_both 0 (trades_at p book))
    where
      live_only : (side : ℕ) → Each (λ o. o.number ≡ 0 → ⊥) (queue side book)
      live_only side =
          each (Stands side) (λ o. o.number ≡ 0 → ⊥) (queue side book) (λ o k. on_live side o k.1)
          (queue_stands side book s.fair)

  -- no order is filled more than it has
  abbrev Within : Order → Type 0
  Within o = filled_of o.number (trades_at p book) ≤ o.left

  within :
      (side : ℕ)
      → Each (λ o. filled_of o.number (trades_at p book) ≡ granted o.number (cut (volume book p) (queue side book))) (queue side book)
      → Each (λ o. stands_on side o ≡ true → Within o) book
  within side e =
      each_on Within side book
      (both (λ o. filled_of o.number (trades_at p book) ≡ granted o.number (cut (volume book p) (queue side book)))
      (λ o. granted o.number (cut (volume book p) (queue side book)) ≤ o.left)
      Within (queue side book) (λ o x y. omega arith) e
      (grants_within (volume book p) (queue side book) (queue_own book s side)))

  pub never_over : Each (λ o. filled_of o.number (trades_at p book) ≤ o.left) book
  never_over =
      both Fair (λ o. (stands_on 0 o ≡ true → Within o) × (stands_on 1 o ≡ true → Within o)) Within book
      (λ o f w. ⊎_elim (λ k. w.0 k.0) (λ l. ⊎_elim (λ k. w.1 k.1) (λ k. free_within o k.2) l) (place_of o f))
      s.fair
      (both (λ o. stands_on 0 o ≡ true → Within o) (λ o. stands_on 1 o ≡ true → Within o)
      (λ o. (stands_on 0 o ≡ true → Within o) × (stands_on 1 o ≡ true → Within o)) book (λ o x y. (x, y))
      (within 0 buys_filled) (within 1 sells_filled))
    where
      free_within : (o : Order) → o.number ≡ 0 → Within o
      free_within o z = rw z (omega (arith, nobody_filled))

  -- over the book each share that trades is filled twice, once bought and once sold
  pub both_filled : total (λ o. filled_of o.number (trades_at p book)) book ≡ volume book p + volume book p
  both_filled =
      two_sides (λ o. filled_of o.number (trades_at p book)) (λ o z. rw z nobody_filled) book s.fair
      ∙ ap₂ ◌+◌ (whole 0 buys_filled (volume_buys book p)) (whole 1 sells_filled (volume_sells book p))
    where
      whole :
          (side : ℕ)
          → Each (λ o. filled_of o.number (trades_at p book) ≡ granted o.number (cut (volume book p) (queue side book))) (queue side book)
          → volume book p ≤ shares (queue side book)
          → total (λ o. filled_of o.number (trades_at p book)) (queue side book) ≡ volume book p
      whole side e h =
          total_same (λ o. filled_of o.number (trades_at p book)) (λ o. granted o.number (cut (volume book p) (queue side book))) (queue side book) e
          ∙ grants_total (volume book p) (queue side book) (queue_own book s side)
          ∙ omega arith

  -- so the book has as much less afterwards
  pub settled_shares : total (λ o. o.left) (settle (trades_at p book) book) + 2 * volume book p ≡ total (λ o. o.left) book
  settled_shares = omega (arith, settle_total (trades_at p book) book never_over, both_filled)

  -- fewer trades than live orders
  pub fewer_than_live : length (trades_at p book) ≤ length (keep is_live book) - 1
  unfolding trades_at pairs
  fewer_than_live =
      omega (
        arith,
        fewer_trades p (cut (volume book p) (queue 0 book)) (cut (volume book p) (queue 1 book)),
        cut_short (volume book p) (queue 0 book),
        cut_short (volume book p) (queue 1 book),
        queues_orders book s.fair,
      )
