-- Two books with the same queues: whatever the definitions read off a queue is the same for both.
use Prim.Native.Nat.{ℕ}
use mathlib.Core.Path.{◌≡◌, sym, ap, ◌∙◌, fun_ext}
use mathlib.Core.Bool.{Bool, cond, ◌&&◌}
use mathlib.Core.List.{List}
use lib.Dec.{leb, ltb, eqb}
use Rattle.model.specs.declared.Order.{Order}
use Rattle.model.specs.declared.Asked.{Asked}
use Rattle.model.specs.declared.Trade.{Trade}
use Rattle.model.specs.declared.Day.{Day}
use Rattle.model.specs.Lists.{keep, total}
use Rattle.model.specs.Book.{stands_on, queue, other, head_price, best}
use Rattle.model.specs.Entry.{best_within, entry_price, opposite, entry_trades, rest_price, base}
use Rattle.model.specs.Auction.{prices, shares_of, demand, supply, volume, buys_above, sells_below, buys_at, sells_at, most_trades, better_fill, one_side_fills, qualifies, qualifying, least_difference, left_by, surplus, auction_price}
use Rattle.model.specs.Screen.{level_at, levels_of, shown_price, screen_of, high_with, low_with, update}
use Rattle.model.specs.Sound.{screen_fits}
use Rattle.model.specs.Pairing.{trades_at}
use Rattle.model.specs.ClockCall.{auction_trades}
use Rattle.model.specs.AuctionCalls.{report_at, due}
use Rattle.book.proofs.Lists.{keep_keep, total_kept}
use Rattle.book.proofs.Queues.{total_queue}

-- the same orders of each side, in the same priority
abbrev pub Alike : List Order → List Order → Type 0
Alike o c = (side : ℕ) → queue side o ≡ queue side c

-- the shares of those on a side that pass a test
shares_queue :
    (side : ℕ) (test : Order → Bool) (book : List Order)
    → shares_of (λ x. stands_on side x && test x) book ≡ total (λ x. cond (test x) x.left 0) (queue side book)
unfolding shares_of
shares_queue side test book =
    ap (total (λ (x : Order). x.left)) (sym (keep_keep test (stands_on side) book))
    ∙ total_kept (λ x. x.left) test (keep (stands_on side) book)
    ∙ sym (total_queue (λ x. cond (test x) x.left 0) side book)

module _ (o c : List Order) (same : Alike o c) where
  -- ---- on entry

  pub best_alike : (side : ℕ) → best side o ≡ best side c
  unfolding best
  best_alike side = ap head_price (same side)

  within_alike : (a : Asked) (side : ℕ) → best_within a side o ≡ best_within a side c
  unfolding best_within
  within_alike a side = rw (best_alike side)

  price_alike : (a : Asked) → entry_price a o ≡ entry_price a c
  unfolding entry_price
  price_alike a = rw (within_alike a (other a.side), within_alike a a.side)

  opposite_alike : (a : Asked) → opposite a o ≡ opposite a c
  unfolding opposite
  opposite_alike a = rw (same (other a.side))

  pub entry_alike : (d : Day) (a : Asked) → entry_trades d a o ≡ entry_trades d a c
  unfolding entry_trades
  entry_alike d a = rw (price_alike a, opposite_alike a)

  pub rest_alike : (a : Asked) (ts : List Trade) → rest_price a ts o ≡ rest_price a ts c
  unfolding rest_price
  rest_alike a ts = rw (within_alike a a.side, price_alike a)

  pub base_alike : (d : Day) (side : ℕ) → base d side o ≡ base d side c
  unfolding base
  base_alike d side = rw (best_alike (other side), best_alike side)

  -- ---- in an auction

  shares_alike :
      (side : ℕ) (test : Order → Bool)
      → shares_of (λ x. stands_on side x && test x) o ≡ shares_of (λ x. stands_on side x && test x) c
  shares_alike side test =
      shares_queue side test o
      ∙ ap (total (λ (x : Order). cond (test x) x.left 0)) (same side)
      ∙ sym (shares_queue side test c)

  demand_alike : demand o ≡ demand c
  unfolding demand
  demand_alike = fun_ext (λ p. shares_alike 0 (λ x. leb p x.price))

  supply_alike : supply o ≡ supply c
  unfolding supply
  supply_alike = fun_ext (λ p. shares_alike 1 (λ x. leb x.price p))

  volume_alike : volume o ≡ volume c
  unfolding volume
  volume_alike = fun_ext (λ p. rw (demand_alike, supply_alike))

  above_alike : buys_above o ≡ buys_above c
  unfolding buys_above
  above_alike = fun_ext (λ p. shares_alike 0 (λ x. ltb p x.price))

  below_alike : sells_below o ≡ sells_below c
  unfolding sells_below
  below_alike = fun_ext (λ p. shares_alike 1 (λ x. ltb x.price p))

  buys_alike : buys_at o ≡ buys_at c
  unfolding buys_at
  buys_alike = fun_ext (λ p. shares_alike 0 (λ x. eqb x.price p))

  sells_alike : sells_at o ≡ sells_at c
  unfolding sells_at
  sells_alike = fun_ext (λ p. shares_alike 1 (λ x. eqb x.price p))

  most_alike : most_trades o ≡ most_trades c
  unfolding most_trades
  most_alike = fun_ext (λ p. rw volume_alike)

  fill_alike : better_fill o ≡ better_fill c
  unfolding better_fill
  fill_alike = fun_ext (λ p. rw (above_alike, below_alike, volume_alike))

  one_alike : one_side_fills o ≡ one_side_fills c
  unfolding one_side_fills
  one_alike = fun_ext (λ p. rw (above_alike, buys_alike, below_alike, sells_alike, volume_alike))

  qualifies_alike : qualifies o ≡ qualifies c
  unfolding qualifies
  qualifies_alike = fun_ext (λ p. rw (volume_alike, most_alike, fill_alike, one_alike))

  qualifying_alike : qualifying o ≡ qualifying c
  unfolding qualifying
  qualifying_alike = ap (λ (t : ℕ → Bool). keep t prices) qualifies_alike

  left_alike : (ref : ℕ) → left_by o ref ≡ left_by c ref
  unfolding left_by least_difference
  left_alike ref = rw (demand_alike, supply_alike, qualifying_alike)

  trades_alike : (p : ℕ) → trades_at p o ≡ trades_at p c
  unfolding trades_at
  trades_alike p = rw (volume_alike, same 0, same 1)

  pub auction_alike : (d : Day) → auction_price d o ≡ auction_price d c
  unfolding auction_price
  auction_alike d = rw (left_alike)

  pub auctioned_alike : (d : Day) → auction_trades d o ≡ auction_trades d c
  unfolding auction_trades
  auctioned_alike d = rw (auction_alike d, trades_alike (auction_price d c))

  -- ---- on the screen

  levels_alike : (side : ℕ) → levels_of side o ≡ levels_of side c
  unfolding levels_of
  levels_alike side =
      let at : level_at side o ≡ level_at side c = unfold level_at in fun_ext (λ p. rw (shares_alike side (λ x. eqb x.price p))) in
      rw (at, same side)

  shown_alike : (d : Day) → shown_price d o ≡ shown_price d c
  unfolding shown_price
  shown_alike d = rw (auction_alike d)

  screen_alike : (d : Day) (high low : ℕ) → screen_of d o high low ≡ screen_of d c high low
  unfolding screen_of surplus
  screen_alike d high low =
      rw (levels_alike 0, levels_alike 1, shown_alike d, volume_alike, demand_alike, supply_alike)

  pub update_alike : (ts : List Trade) (d : Day) → update ts o d ≡ update ts c d
  unfolding update
  update_alike ts d = rw (screen_alike d (high_with ts d.screen) (low_with ts d.screen))

  pub fits_alike : (d : Day) → screen_fits d o ≡ screen_fits d c
  unfolding screen_fits
  fits_alike d = rw (screen_alike d d.screen.high d.screen.low)

  -- ---- in a report and in the price list

  pub report_alike : (p : ℕ) → report_at p o ≡ report_at p c
  unfolding report_at surplus
  report_alike p = rw (volume_alike, demand_alike, supply_alike)

  pub due_alike : (asked : ℕ) → due asked o ≡ due asked c
  unfolding due
  due_alike asked = rw qualifying_alike
