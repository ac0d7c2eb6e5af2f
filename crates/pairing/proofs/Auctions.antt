-- The trades of an auction as the clock call has them: what they come to, that no buy reaches a sell after them, and the book then,
-- in its order again.
use Rattle.std.specs.Prelude.{if◌then◌else◌}
use Prim.Native.Nat.{ℕ, ◌+◌, ◌-◌, ◌*◌, ◌≤◌}
use mathlib.Core.Path.{◌≡◌, refl, sym, ap, ◌∙◌}
use mathlib.Core.Logic.{◌⊎◌, inl, inr, ⊎_elim}
use mathlib.Core.Bool.{Bool, true, false}
use mathlib.Core.List.{List, []}
use native.Mathlib.Nat.{le_refl}
use native.Mathlib.Omega.{arith}
use borrow.Author.Tests.{eqb-true}
use lib.ListN.{length}
use lib.Dec.{eqb}
use Rattle.model.specs.declared.Order.{Order}
use Rattle.model.specs.declared.Day.{Day}
use Rattle.model.specs.Lists.{keep, total}
use Rattle.model.specs.Book.{is_live, queue, best, arranged}
use Rattle.model.specs.Matching.{filled, first_price, last_price, settle}
use Rattle.model.specs.Figures.{money, reference}
use Rattle.model.specs.Auction.{volume, auction_price}
use Rattle.model.specs.Pairing.{cut, trades_at}
use Rattle.model.specs.Sound.{crosses}
use Rattle.model.specs.ClockCall.{auction_trades}
use Rattle.model.specs.Words.{Each, Qualifies}
use Rattle.book.specs.Standing.{Standing}
use Rattle.book.proofs.Lists.{length_keep}
use Rattle.book.proofs.Kept.{standing_settle}
use Rattle.book.proofs.Counting.{queues_orders, fewer_orders}
use Rattle.book.proofs.Arranging.{arranged_stands, arranged_crosses}
use Rattle.model.proofs.Bools.{not_both, not_true_false}
use Rattle.auction.proofs.Sides.{supply_bottom}
use Rattle.auction.proofs.Conditions.{volume_is}
use Rattle.auction.proofs.Crossing.{crosses_told, told_crosses, demand_best, supply_best, best_demand, best_supply}
use Rattle.auction.proofs.Rules.{auction_price_cases, none_left_over}
use Rattle.pairing.proofs.Turns.{pairs, cut_nothing, no_buys}
use Rattle.pairing.proofs.Auctioned.{priced_money, priced_first, priced_last, trades_priced, volume_filled, settled_shares, fewer_than_live}
use Rattle.pairing.proofs.Uncrossing.{demand_after, supply_after, uncrossed_after}

module _ (book : List Order) (s : Standing book) where
  -- where no buy reaches a sell there is nothing to trade
  pub uncrossed_none : (d : Day) → crosses book ≡ false → auction_trades d book ≡ []
  unfolding auction_trades auction_price
  uncrossed_none d c = rw (none_left_over book s c (reference d))

  -- nothing is sold at 0, so an auction at 0 has no trade
  no_volume : volume book 0 ≡ 0
  no_volume = omega (arith, volume_is book 0, supply_bottom book s)

  no_trades_lem : trades_at 0 book ≡ []
  unfolding trades_at pairs
  no_trades_lem =
      ap (λ v. pairs 0 (cut v (queue 0 book)) (cut v (queue 1 book))) no_volume
      ∙ ap (λ l. pairs 0 l (cut 0 (queue 1 book))) (cut_nothing (queue 0 book))
      ∙ no_buys 0 (cut 0 (queue 1 book))

  module _ (d : Day) where
    -- so they are the trades at the auction's price, whether there is one or not
    pub auction_trades_are : auction_trades d book ≡ trades_at (auction_price d book) book
    unfolding auction_trades
    auction_trades_are = go (auction_price d book) (eqb (auction_price d book) 0) refl
      where
        go : (p : ℕ) (b : Bool) → eqb p 0 ≡ b → (if b then [] else trades_at p book) ≡ trades_at p book
        go p true e = sym (ap (λ n. trades_at n book) (eqb-true p 0 e) ∙ no_trades_lem)
        go p false e = refl

    pub auction_filled : filled (auction_trades d book) ≡ volume book (auction_price d book)
    auction_filled = ap filled auction_trades_are ∙ volume_filled (auction_price d book) book s

    pub auction_priced : Each (λ t. t.price ≡ auction_price d book) (auction_trades d book)
    auction_priced = rw auction_trades_are (trades_priced (auction_price d book) book s)

    pub auction_money : money (auction_trades d book) ≡ auction_price d book * filled (auction_trades d book)
    auction_money = priced_money (auction_price d book) (auction_trades d book) auction_priced

    -- the book has less by what was bought and what was sold
    pub auction_shares : total (λ o. o.left) (settle (auction_trades d book) book) + 2 * filled (auction_trades d book) ≡ total (λ o. o.left) book
    auction_shares = rw (auction_filled, auction_trades_are) (settled_shares (auction_price d book) book s)

    pub auction_fewer : length (auction_trades d book) ≤ length (keep is_live book) - 1
    auction_fewer = rw auction_trades_are (fewer_than_live (auction_price d book) book s)

    -- there is no trade, or the price qualifies, something trades, and the first and the last trade are at the price
    pub record Traded : Type 0 where
      pub qualifies : Qualifies book (auction_price d book)
      pub some : 1 ≤ filled (auction_trades d book)
      pub first : (q : ℕ) → first_price q (auction_trades d book) ≡ auction_price d book
      pub last : (q : ℕ) → last_price q (auction_trades d book) ≡ auction_price d book

    traded : Qualifies book (auction_price d book) → Traded
    traded k =
        let h : 1 ≤ filled (auction_trades d book) = omega (arith, auction_filled, k.trades) in
        record {
          qualifies = k;
          some = h;
          first = priced_first (auction_price d book) (auction_trades d book) auction_priced h;
          last = priced_last (auction_price d book) (auction_trades d book) auction_priced h;
        }

    pub auction_cases : Traded ⊎ ((auction_price d book ≡ 0) × (auction_trades d book ≡ []))
    auction_cases =
        ⊎_elim (λ k. inl (traded k.0))
        (λ k. inr (k.0, auction_trades_are ∙ ap (λ p. trades_at p book) k.0 ∙ no_trades_lem)) (auction_price_cases book s d)

    -- no price, no trade: the book stays as uncrossed as it was
    still_uncrossed :
        auction_price d book ≡ 0
        → crosses book ≡ false
        → crosses (settle (trades_at (auction_price d book) book) book) ≡ false
    still_uncrossed z c =
        let p = auction_price d book in
        let book' = settle (trades_at p book) book in
        let t = standing_settle (trades_at p book) book s in
        let v : volume book p ≡ 0 = ap (volume book) z ∙ no_volume in
        not_true_false
        (λ e.
        let k = crosses_told book' t e in
        let r = best 0 book' in
        let x = best_demand book' t r k.buys (le_refl r) in
        let y = best_supply book' t r k.sells k.meet in
        let b = demand_best book s r (omega (arith, demand_after p book s r)) in
        let a = supply_best book s r (omega (arith, supply_after p book s r)) in
        not_both (told_crosses book s (record { buys = b.0; sells = a.0; meet = omega arith })) c)

    pub auction_uncrosses : crosses (settle (auction_trades d book) book) ≡ false
    auction_uncrosses =
        rw auction_trades_are
        (⊎_elim (λ k. uncrossed_after (auction_price d book) book s k.0) (λ k. still_uncrossed k.0 k.1) (auction_price_cases book s d))

    -- ---- the book afterwards
    abbrev pub afterwards : List Order
    afterwards = arranged (length book) (settle (auction_trades d book) book)

    settled_stands : Standing (settle (auction_trades d book) book)
    settled_stands = standing_settle (auction_trades d book) book s

    -- what is left has its places
    pub settled_fit :
        length (queue 0 (settle (auction_trades d book) book)) + length (queue 1 (settle (auction_trades d book) book)) ≤ length book
    settled_fit =
        omega (
          arith,
          queues_orders (settle (auction_trades d book) book) settled_stands.fair,
          fewer_orders (auction_trades d book) book,
          length_keep is_live book,
        )

    pub afterwards_stands : Standing afterwards
    afterwards_stands = arranged_stands (length book) (settle (auction_trades d book) book) settled_stands settled_fit

    pub afterwards_uncrossed : crosses afterwards ≡ false
    afterwards_uncrossed =
        arranged_crosses (length book) (settle (auction_trades d book) book) settled_stands settled_fit ∙ auction_uncrosses
