-- The price list as a run of prices, and what it is in a lent list.
use Rattle.std.specs.Prelude.{ℕ, List, ◌++◌, drop, eqb, if◌then◌else◌}
use Rattle.model.specs.declared.Order.{Order}
use Rattle.model.specs.declared.Day.{Day}
use Rattle.model.specs.declared.ListReply as ListReply
use Rattle.model.specs.Lists.{from}
use Rattle.model.specs.Refusals.{first_of}
use Rattle.model.specs.AuctionCalls.{list_rules, due}
use Rattle.auction.specs.Fitting.{run_within}
use Rattle.day.specs.declared.auctions.Listing.{Listing}
use Rattle.day.specs.declared.auctions.Listing.TheVariants.{Refused, Prices}

unfoldable pub list_run : Day → List Order → ℕ → ℕ → Listing
list_run d book places asked =
    let n : ℕ = first_of (list_rules d book) in
    if eqb n 0 then Prices (run_within places (due asked book)) else Refused n

unfoldable pub list_reply : Listing → ListReply.ListReply
list_reply (Refused n) = ListReply.TheVariants.Refused n
list_reply (Prices r) = ListReply.TheVariants.Listed r.count r.next

-- the prices stand at the front of the lent list, the rest of which stays
unfoldable pub list_prices : List ℕ → Listing → List ℕ
list_prices lent (Refused n) = lent
list_prices lent (Prices r) = from r.first r.count ++ drop r.count lent
