-- One side's shares at a price, so that one law serves both sides: side 0 at p is the demand, side 1 the supply.
use Rattle.std.specs.Prelude.{ℕ, Bool, ◌&&◌, List, if◌then◌else◌}
use Rattle.model.specs.declared.Order.{Order}
use Rattle.model.specs.Book.{stands_on}
use Rattle.model.specs.Matching.{meets}
use Rattle.model.specs.Auction.{shares_of, demand, supply}
use Rattle.auction.specs.declared.Interest.{Interest}

-- an order of the side that may trade at p: a buy at p or above, a sell at p or below
unfoldable pub trades_for : ℕ → ℕ → Order → Bool
trades_for side p o = stands_on side o && meets side o.price p

-- the shares that it brings
unfoldable pub brings : ℕ → ℕ → Order → ℕ
brings side p o = if trades_for side p o then o.left else 0

unfoldable pub interest : List Order → ℕ → ℕ → ℕ
interest book side p = shares_of (trades_for side p) book

-- all buys at least or above, and all sells at most or below
unfoldable pub interest_at : List Order → ℕ → ℕ → Interest
interest_at book least most = record { demand = demand book least; supply = supply book most }
