-- The walk along both sides of an auction: where it goes on, where it ends, and the qualifying prices there.
use Rattle.std.specs.Prelude.{ℕ, ◌+◌, ◌≤◌, ◌<◌, min, max, ◌≡◌, Bool, ◌&&◌, List, ltb, leb, eqb, if◌then◌else◌}
use Rattle.model.specs.declared.Order.{Order}
use Rattle.model.specs.Lists.{total}
use Rattle.model.specs.Matching.{meets}
use Rattle.model.specs.Auction.{demand, supply, volume, qualifying}
use Rattle.book.specs.declared.Head.{Head}
use Rattle.book.specs.Lines.{line}
use Rattle.auction.specs.declared.Crossed.{Crossed}
use Rattle.auction.specs.declared.Span.{Span}
use Rattle.auction.specs.declared.Stop.{Stop}
use Rattle.auction.specs.Spans.{ends, gap}
use Rattle.auction.specs.Tiers.{run_of}

-- the heads trade with each other
unfoldable pub crossing : Head → Head → Bool
crossing buy sell = ltb 0 buy.left && (ltb 0 sell.left && leb sell.price buy.price)

unfoldable pub crossed_by : Crossed → ℕ → ℕ → ℕ → Crossed
crossed_by c q b s = record { shares = c.shares + q; buy = b; sell = s }

-- the price or, where it is higher or lower, that of a head
unfoldable pub higher : ℕ → Head → ℕ
higher p h = if eqb h.left 0 then p else max p h.price

unfoldable pub lower : ℕ → Head → ℕ
lower p h = if eqb h.left 0 then p else min p h.price

-- a price qualifies that is not below the last sell or the next buy, nor above the last buy or the next sell
unfoldable pub span_of : Crossed → Head → Head → Span
span_of c buy sell =
    if eqb c.shares 0
    then record { lo = 0; hi = 0 }
    else record { lo = higher c.sell buy; hi = lower c.buy sell }

-- the shares of orders that trade at p
unfoldable pub reach : ℕ → ℕ → List Order → ℕ
reach side p os = total (λ o. if meets side o.price p then o.left else 0) os

-- the shares of a head and those behind it, at the front, that stand at p
unfoldable pub left_at : ℕ → Head → List Order → ℕ
left_at p h os = if eqb h.left 0 then 0 else if eqb h.price p then h.left + run_of p os else 0

-- where the walk has ended, at a price: what has traded is the volume, and with what is left there of a side it is all of that side
pub record FillsAt (rows : List Order) (middle end : ℕ) (s : Stop) (p : ℕ) : Type 0 where
  pub trades : s.crossed.shares ≡ volume rows p
  pub buys : s.crossed.shares + left_at p s.buy (line (s.buy.at + 1) middle rows) ≡ demand rows p
  pub sells : s.crossed.shares + left_at p s.sell (line (s.sell.at + 1) end rows) ≡ supply rows p

-- the walk's end: the span of the qualifying prices, and what is left at its ends is the difference there
pub record StopOf (rows : List Order) (middle end : ℕ) (s : Stop) : Type 0 where
  pub span : span_of s.crossed s.buy s.sell ≡ ends (qualifying rows)
  pub low :
      (span_of s.crossed s.buy s.sell).lo < (span_of s.crossed s.buy s.sell).hi
      → left_at (span_of s.crossed s.buy s.sell).lo s.buy (line (s.buy.at + 1) middle rows)
      ≡ gap rows (span_of s.crossed s.buy s.sell).lo
  pub high :
      (span_of s.crossed s.buy s.sell).lo < (span_of s.crossed s.buy s.sell).hi
      → left_at (span_of s.crossed s.buy s.sell).hi s.sell (line (s.sell.at + 1) end rows)
      ≡ gap rows (span_of s.crossed s.buy s.sell).hi
  pub fills :
      (p : ℕ)
      → 1 ≤ p
      → (span_of s.crossed s.buy s.sell).lo ≤ p
      → p ≤ (span_of s.crossed s.buy s.sell).hi
      → FillsAt rows middle end s p
  pub buying : 0 < s.buy.left → s.buy.at < middle
  pub selling : 0 < s.sell.left → s.sell.at < end
