-- Fixed-price trading after the close: the proofs of its statement, together.
use Rattle.fixed_demands.specs.FixedPrice.{FixedPrice}
use Rattle.fixed_demands.proofs.Entered.{entered}
use Rattle.fixed_demands.proofs.FivePast.{five_past_lem, ended}

pub fixed_price : FixedPrice
fixed_price = record { entered = entered; five_past = five_past_lem; end = ended }
