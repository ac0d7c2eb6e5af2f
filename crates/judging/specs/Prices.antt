-- What the judge knows before the claims are looked at.
use Rattle.std.specs.Prelude.{ℕ, List, eqb, if◌then◌else◌}
use Rattle.model.specs.declared.Order.{Order}
use Rattle.model.specs.declared.Day.{Day}
use Rattle.model.specs.Refusals.{first_of}
use Rattle.model.specs.Auction.{auction_price}
use Rattle.judge.specs.declared.Verdict.{Verdict}
use Rattle.judge.specs.declared.Verdict.TheVariants.{Refused, Yes, No}
use Rattle.judge.specs.Judging.{judge_rules}

-- 15, no for a price that is not the one that is left, and yes where the claims decide
unfoldable pub price_verdict : Day → ℕ → List Order → Verdict
price_verdict d price book =
    let n : ℕ = first_of (judge_rules d book) in
    if eqb n 0 then (if eqb price (auction_price d book) then Yes else No) else Refused n
