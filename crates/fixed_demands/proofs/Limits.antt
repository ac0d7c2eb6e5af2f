-- Who trades, trades within his limit: a matching of orders none of which is void. Assumes nothing.
use Prim.Native.Nat.{ℕ, ◌≤◌}
use mathlib.Core.Path.{◌≡◌, ap, ◌∙◌}
use mathlib.Core.Bool.{Bool, true, false}
use mathlib.Core.List.{List}
use lib.Dec.{eqb}
use borrow.Author.Tests.{ltb-false}
use Rattle.model.specs.declared.Order.{Order}
use Rattle.model.specs.declared.Trade.{Trade}
use Rattle.model.specs.Lists.{keep}
use Rattle.model.specs.Book.{is_live, stands_on}
use Rattle.model.specs.Pairing.{Share}
use Rattle.model.specs.FixedBook.{wrong_side, is_void, arrivals, matches}
use Rattle.model.specs.Words.{Each, Some}
use Rattle.model.proofs.Bools.{and_left}
use Rattle.book.specs.Standing.{Standing}
use Rattle.book.proofs.Lists.{each, both}
use Rattle.book.proofs.Queues.{on_side}
use Rattle.fixed_demands.specs.FixedPrice.{WithinLimits}
use Rattle.fixed_demands.proofs.Among.{some_of, itself, some_kept}
use Rattle.fixed_demands.proofs.Walking.{parties}
use Rattle.fixed_demands.proofs.Matched.{matches_are, each_share, matches_priced}

-- ---- within the limits

buy_limit : (close : ℕ) (o : Order) → is_void close o ≡ false → stands_on 0 o ≡ true → close ≤ o.price
unfolding is_void wrong_side stands_on
buy_limit close o v e =
    let s : o.side ≡ 0 = unfold stands_on in on_side 0 o e in
    let live : is_live o ≡ true = and_left (is_live o) (eqb o.side 0) e in
    ltb-false o.price close (rw (live, s) at v)

sell_limit_lem : (close : ℕ) (o : Order) → is_void close o ≡ false → stands_on 1 o ≡ true → o.price ≤ close
unfolding is_void wrong_side stands_on
sell_limit_lem close o v e =
    let s : o.side ≡ 1 = unfold stands_on in on_side 1 o e in
    let live : is_live o ≡ true = and_left (is_live o) (eqb o.side 1) e in
    ltb-false close o.price (rw (live, s) at v)

module _ (close : ℕ) (os : List Order) (s : Standing os) (v : Each (λ o. is_void close o ≡ false) os) where
  abbrev Buys : ℕ → Type 0
  Buys n = Some (λ (o : Order). (o.number ≡ n) × (o.side ≡ 0) × (close ≤ o.price)) os

  abbrev Sells : ℕ → Type 0
  Sells n = Some (λ (o : Order). (o.number ≡ n) × (o.side ≡ 1) × (o.price ≤ close)) os

  buyers : Each (λ (x : Share). Buys x.number) (arrivals 0 os)
  buyers =
      each_share (λ (x : Share). Buys x.number) 0 os
      (both (λ o. is_void close o ≡ false) (λ o. Some (λ p. p ≡ o) os) (λ o. stands_on 0 o ≡ true → Buys o.number) os
      (λ o n h e. some_of (λ p q. (ap (λ (x : Order). x.number) q, ap (λ (x : Order). x.side) q ∙ on_side 0 o e, rw q (buy_limit close o n e))) os h)
      v (itself os))

  sellers : Each (λ (x : Share). Sells x.number) (arrivals 1 os)
  sellers =
      each_share (λ (x : Share). Sells x.number) 1 os
      (both (λ o. is_void close o ≡ false) (λ o. Some (λ p. p ≡ o) os) (λ o. stands_on 1 o ≡ true → Sells o.number) os
      (λ o n h e. some_of (λ p q. (ap (λ (x : Order). x.number) q, ap (λ (x : Order). x.side) q ∙ on_side 1 o e, rw q (sell_limit_lem close o n e))) os h)
      v (itself os))

  pub within_limits : Each (WithinLimits close os) (matches close os)
  within_limits =
      both (λ (t : Trade). t.price ≡ close) (λ (t : Trade). Buys t.buyer × Sells t.seller) (WithinLimits close os) (matches close os)
      (λ t p h. record { price = p; buyer = h.0; seller = h.1 })
      (matches_priced os s close)
      (rw (matches_are close os) (parties close Buys Sells (arrivals 0 os) (arrivals 1 os) buyers sellers))

-- of some of these orders
pub limits_among : (close : ℕ) (p : Order → Bool) (os : List Order) (ts : List Trade) → Each (WithinLimits close (keep p os)) ts → Each (WithinLimits close os) ts
limits_among close p os ts =
    each (WithinLimits close (keep p os)) (WithinLimits close os) ts
    (λ t w. record { price = w.price; buyer = some_kept _ p os w.buyer; seller = some_kept _ p os w.seller })
