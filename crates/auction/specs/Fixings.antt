-- What an auction comes to at a price.
use Rattle.std.specs.Prelude.{ℕ, List, pos, eqb, if◌then◌else◌}
use Rattle.model.specs.declared.Order.{Order}
use Rattle.model.specs.Auction.{volume, surplus}
use Rattle.auction.specs.declared.Fixing.{Fixing}

-- price, volume and surplus; zeros at 0, where no price stands
unfoldable pub fixing_at : ℕ → List Order → Fixing
fixing_at p book =
    record {
      price = p;
      volume = if eqb p 0 then 0 else volume book p;
      surplus = if eqb p 0 then pos 0 else surplus book p;
    }
