-- The price from where the walk along both sides has ended: what is left of the buys at the lower end of the span, and of the sells
-- at the upper end, is the difference there.
use Prim.Native.Nat.{ℕ, ◌+◌, ◌-◌, ◌≤◌, ◌<◌}
use mathlib.Core.Path.{◌≡◌, sym, ap, ap₂, ◌∙◌}
use mathlib.Core.List.{List}
use native.Mathlib.Omega.{arith}
use lib.ListN.{length, get_or}
use Rattle.model.specs.declared.Order.{Order}
use Rattle.model.specs.Book.{queue}
use Rattle.model.specs.Auction.{distance, qualifying, left_by}
use Rattle.book.specs.Standing.{Ranked}
use Rattle.book.specs.Lines.{line}
use Rattle.auction.specs.declared.Span.{Span}
use Rattle.auction.specs.declared.Stop.{Stop}
use Rattle.auction.specs.Spans.{ends, gap, flatter_by, flatter, beside_of, nearest_in}
use Rattle.auction.specs.Walks.{span_of, left_at, StopOf}
use Rattle.auction.proofs.Sides.{demand_bound, supply_bound}
use Rattle.auction.proofs.Spanning.{Spans}
use Rattle.auction.proofs.Ties.{price_alone, several, price_among, above_low, below_high}
use Rattle.auction.proofs.Stretches.{Stretches, stretches_of}

gap_bound : (os : List Order) (p : ℕ) → Ranked os → gap os p ≤ 4_096_000_000
unfolding gap distance
gap_bound os p r = omega (arith, demand_bound os p r, supply_bound os p r)

module _
    (rows : List Order) (ranked : Ranked rows) {middle end : ℕ}
    (em : middle ≡ length (queue 0 rows)) (en : end ≡ length (queue 0 rows) + length (queue 1 rows))
    {stop : Stop} (k : StopOf rows middle end stop) {s : Span} (e : s ≡ span_of stop.crossed stop.buy stop.sell)
  where
    abbrev book : List Order
    book = rows

    span_is : s ≡ ends (qualifying book)
    span_is = e ∙ k.span

    w : Stretches rows middle end
    w = stretches_of rows ranked em en

    pub price_one : (ref : ℕ) → s.lo ≡ s.hi → s.lo ≡ get_or (left_by book ref) 0 0
    price_one ref same = price_alone book ref span_is same

    module _ (many : s.lo ≡ s.hi → ⊥) where
      spans : Spans book s.lo s.hi
      spans = several book span_is many

      pub apart : (s.lo < s.hi) × (s.hi ≤ 999_999)
      apart = (omega (arith, spans.some), spans.to_999999)

      low_gap : left_at s.lo stop.buy (line (stop.buy.at + 1) middle rows) ≡ gap book s.lo
      low_gap = rw e (k.low (rw e at apart.0))

      high_gap : left_at s.hi stop.sell (line (stop.sell.at + 1) end rows) ≡ gap book s.hi
      high_gap = rw e (k.high (rw e at apart.0))

      pub buys_fit :
          (middle ≤ length rows)
          × ((0 < stop.buy.left → stop.buy.at < middle)
          × (left_at s.lo stop.buy (line (stop.buy.at + 1) middle rows) ≤ 4_096_000_000))
      buys_fit = (w.short_buys, (k.buying, omega (arith, low_gap, gap_bound book s.lo ranked)))

      pub sells_fit :
          (end ≤ length rows)
          × ((0 < stop.sell.left → stop.sell.at < end)
          × (left_at s.hi stop.sell (line (stop.sell.at + 1) end rows) ≤ 4_096_000_000))
      sells_fit = (w.short_sells, (k.selling, omega (arith, high_gap, gap_bound book s.hi ranked)))

      pub price_several :
          (ref : ℕ) {buys sells a b low high r : ℕ}
          → buys ≡ left_at s.lo stop.buy (line (stop.buy.at + 1) middle rows)
          → sells ≡ left_at s.hi stop.sell (line (stop.sell.at + 1) end rows)
          → a ≡ beside_of s.lo s.hi sells
          → low ≡ flatter_by s.lo buys (s.lo + 1) a
          → b ≡ beside_of s.lo s.hi buys
          → high ≡ flatter_by s.hi sells (s.hi - 1) b
          → r ≡ nearest_in ref low high
          → r ≡ get_or (left_by book ref) 0 0
      price_several ref {buys} {sells} {a} {b} {low} {high} hb hs ha hl hc hh hr =
          price_among book ref spans apart.0 low_is high_is hr
        where
          at_low : buys ≡ gap book s.lo
          at_low = hb ∙ low_gap

          at_high : sells ≡ gap book s.hi
          at_high = hs ∙ high_gap

          low_is : low ≡ flatter book s.lo (s.lo + 1)
          low_is = unfold flatter in hl ∙ ap₂ (λ x y. flatter_by s.lo x (s.lo + 1) y) at_low (ha ∙ ap (beside_of s.lo s.hi) at_high ∙ sym (above_low book spans apart.0))

          high_is : high ≡ flatter book s.hi (s.hi - 1)
          high_is = unfold flatter in hh ∙ ap₂ (λ x y. flatter_by s.hi x (s.hi - 1) y) at_high (hc ∙ ap (beside_of s.lo s.hi) at_low ∙ sym (below_high book spans apart.0))
