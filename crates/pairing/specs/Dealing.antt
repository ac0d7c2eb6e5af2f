-- The step of the pairing: the trade of the two heads, and what it leaves of both orders.
use Rattle.std.specs.Prelude.{ℕ, ◌+◌, ◌-◌, min, ◌≡◌}
use Rattle.model.specs.declared.Trade.{Trade}
use Rattle.model.specs.Pairing.{Share}
use Rattle.book.specs.declared.Head.{Head}

-- what a head brings to the volume that is left
abbrev pub share_of : ℕ → Head → Share
share_of v h = record { number = h.number; left = min v h.left; whole = h.left }

-- the trade that `pair` makes of the two shares at the front
unfoldable pub dealt : ℕ → Share → Share → Trade
dealt p b s =
    let q : ℕ = min b.left s.left in
    record {
      price = p;
      quantity = q;
      buyer = b.number;
      seller = s.number;
      buyerleft = b.whole - q;
      sellerleft = s.whole - q;
    }

-- what a trade leaves of both whole orders right after it
pub record LeavesBoth (buy sell : Head) (t : Trade) : Type 0 where
  pub buyer : t.buyer ≡ buy.number
  pub seller : t.seller ≡ sell.number
  pub buyerleft : t.buyerleft + t.quantity ≡ buy.left
  pub sellerleft : t.sellerleft + t.quantity ≡ sell.left
