-- A claim is 24 bytes: shares, buyer, seller. A list of claims is the whole ones that the bytes hold; what follows the last belongs to nothing.
use Rattle.std.specs.Prelude.{ℕ, ◌/◌, List, length, get_or}
use Rattle.octets.specs.Numbers.{parts}
use Rattle.records.specs.Layout.{numbers}
use Rattle.judge.specs.declared.Claim.{Claim}

-- a claim as its numbers
abbrev pub claim_of : List ℕ → Claim
claim_of r = record { shares = get_or r 0 0; buyer = get_or r 1 0; seller = get_or r 2 0 }

abbrev pub claim_in : List ℕ → Claim
claim_in b = claim_of (numbers 3 b)

unfoldable pub claims_in : List ℕ → List Claim
claims_in b = parts claim_in 24 (length b / 24) b
