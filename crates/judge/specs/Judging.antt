-- A verdict on a claimed price and a list of claimed trades: yes exactly when the price is the one that is left, every trade joins a
-- live buy with a live sell for at least one share, and each order's fills add up to what priority grants it.
use Rattle.std.specs.Prelude.{ℕ, Bool, not, ◌&&◌, ◌||◌, List, [], ◌∷◌, leb, eqb, if◌then◌else◌}
use Rattle.model.specs.declared.Order.{Order}
use Rattle.model.specs.declared.Day.{Day}
use Rattle.model.specs.Lists.{keep, all, any, total}
use Rattle.model.specs.Book.{is_live, stands_on, queue}
use Rattle.model.specs.Auction.{volume, auction_price}
use Rattle.model.specs.Pairing.{cut}
use Rattle.model.specs.Refusals.{Rule, ◌when◌, first_of, unsound}
use Rattle.model.specs.Words.{granted}
use Rattle.judge.specs.declared.Claim.{Claim}
use Rattle.judge.specs.declared.Verdict.{Verdict}
use Rattle.judge.specs.declared.Verdict.TheVariants.{Refused, Yes, No}

-- no claim: a place of a list at which none was noted
abbrev pub no_claim : Claim
no_claim = record { shares = 0; buyer = 0; seller = 0 }

-- a live order of a side with this number
unfoldable pub has_order : ℕ → List Order → ℕ → Bool
has_order side book number = any (λ o. stands_on side o && eqb o.number number) book

-- a live buy and a live sell, and at least one share
unfoldable pub joins : List Order → Claim → Bool
joins book c = leb 1 c.shares && has_order 0 book c.buyer && has_order 1 book c.seller

-- whom a trade names on a side
unfoldable pub party : ℕ → Claim → ℕ
party side c = if eqb side 0 then c.buyer else c.seller

-- an order's fills: all that is claimed for it as the buyer, or as the seller. The sum is a natural number: it has no end at 64 bits.
unfoldable pub claimed_for : Order → List Claim → ℕ
claimed_for o cs = total (λ c. c.shares) (keep (λ c. eqb (party o.side c) o.number) cs)

-- what priority grants it at a price: its part of its side's queue, cut to the volume
unfoldable pub granted_to : ℕ → List Order → Order → ℕ
granted_to p book o = granted o.number (cut (volume book p) (queue o.side book))

unfoldable pub fills_right : ℕ → List Order → List Claim → Order → Bool
fills_right p book cs o = not (is_live o) || eqb (claimed_for o cs) (granted_to p book o)

-- every trade joins, and each order's fills are those that are granted at a price
unfoldable pub claims_right : ℕ → List Order → List Claim → Bool
claims_right p book cs = all (joins book) cs && all (fills_right p book cs) book

-- where this price is left
unfoldable pub agrees : ℕ → ℕ → List Order → List Claim → Bool
agrees left price book cs = eqb price left && claims_right left book cs

unfoldable pub judge_rules : Day → List Order → List Rule
judge_rules d book = 15 when (unsound d book) ∷ []

unfoldable pub judge_call : Day → ℕ → List Order → List Claim → Verdict
judge_call d price book cs =
    let n : ℕ = first_of (judge_rules d book) in
    if eqb n 0 then (if agrees (auction_price d book) price book cs then Yes else No) else Refused n

-- its reply as numbers: the refusal, 0 where there is a verdict; then 1 for yes, 0 for no
unfoldable pub verdict_numbers : Verdict → List ℕ
verdict_numbers (Refused n) = n ∷ 0 ∷ []
verdict_numbers Yes = 0 ∷ 1 ∷ []
verdict_numbers No = 0 ∷ 0 ∷ []
