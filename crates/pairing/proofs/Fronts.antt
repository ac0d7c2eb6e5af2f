-- An auction takes its volume off the front of either side, whatever its price: so the book after its trades is known by the volume.
use Prim.Native.Nat.{ℕ, ◌-◌}
use mathlib.Core.Path.{◌≡◌, refl, sym, ap, ◌∙◌}
use mathlib.Core.List.{List, [], ◌∷◌, ◌++◌, map}
use Rattle.model.specs.declared.Order.{Order}
use Rattle.model.specs.declared.Trade.{Trade}
use Rattle.model.specs.Book.{queue, arranged}
use Rattle.model.specs.Matching.{less_by, filled_of, settle}
use Rattle.model.specs.Auction.{volume}
use Rattle.model.specs.Pairing.{cut, trades_at}
use Rattle.model.specs.Words.{Each, granted}
use Rattle.book.specs.Standing.{Standing}
use Rattle.book.specs.Settling.{off_front, placed}
use Rattle.book.proofs.Lists.{each, map_same}
use Rattle.book.proofs.Sorting.{Distinct}
use Rattle.book.proofs.Kept.{after}
use Rattle.book.proofs.Numbers.{queue_own}
use Rattle.book.proofs.Fronts.{less_front, less_some_more, settled_placed}
use Rattle.pairing.proofs.Filling.{first_grant, later_grants}
use Rattle.pairing.proofs.Auctioned.{buys_filled, sells_filled}

grants_front :
    (v : ℕ) (os : List Order)
    → Distinct (λ o. o.number) os
    → map (λ o. less_by (granted o.number (cut v os)) o) os ≡ less_front v os
unfolding less_front
grants_front v [] d = refl
grants_front v (o ∷ os) d =
    let one : less_by (granted o.number (cut v (o ∷ os))) o ≡ less_by v o =
    less_some_more (granted o.number (cut v (o ∷ os))) v o (first_grant v o os d.0)
    in
    let rest : map (λ p. less_by (granted p.number (cut v (o ∷ os))) p) os ≡ less_front (v - o.left) os =
    map_same (λ p. less_by (granted p.number (cut v (o ∷ os))) p) (λ p. less_by (granted p.number (cut (v - o.left) os)) p) os
    (each (λ p. granted p.number (cut v (o ∷ os)) ≡ granted p.number (cut (v - o.left) os))
    (λ p. less_by (granted p.number (cut v (o ∷ os))) p ≡ less_by (granted p.number (cut (v - o.left) os)) p) os
    (λ p e. ap (λ n. less_by n p) e) (later_grants v o os d.0))
    ∙ grants_front (v - o.left) os d.1
    in
    rw (one, rest)

granted_front :
    (v : ℕ) (ts : List Trade) (os : List Order)
    → Distinct (λ o. o.number) os
    → Each (λ o. filled_of o.number ts ≡ granted o.number (cut v os)) os
    → map (after ts) os ≡ less_front v os
granted_front v ts os d e =
    map_same (after ts) (λ o. less_by (granted o.number (cut v os)) o) os
    (each (λ o. filled_of o.number ts ≡ granted o.number (cut v os))
    (λ o. after ts o ≡ less_by (granted o.number (cut v os)) o) os (λ o f. ap (λ n. less_by n o) f) e)
    ∙ grants_front v os d

-- the book that the auction at p leaves
pub auction_settles :
    (n shares : ℕ) (book : List Order) {left : List Order}
    → Standing book
    → left ≡ placed n (off_front shares (queue 0 book) ++ off_front shares (queue 1 book))
    → (p : ℕ)
    → volume book p ≡ shares
    → left ≡ arranged n (settle (trades_at p book) book)
auction_settles n shares book s h p e =
    h
    ∙ sym
    (settled_placed book s n (trades_at p book) shares shares (front 0 (buys_filled p book s)) (front 1 (sells_filled p book s)))
  where
    front :
        (side : ℕ)
        → Each (λ o. filled_of o.number (trades_at p book) ≡ granted o.number (cut (volume book p) (queue side book))) (queue side book)
        → map (after (trades_at p book)) (queue side book) ≡ less_front shares (queue side book)
    front side f =
        granted_front (volume book p) (trades_at p book) (queue side book) (queue_own book s side) f
        ∙ ap (λ v. less_front v (queue side book)) e
