-- The orders at the front of a list that stand at one price.
use Rattle.std.specs.Prelude.{ℕ, suc, ◌+◌, List, [], ◌∷◌, eqb, if◌then◌else◌}
use Rattle.model.specs.declared.Order.{Order}
use Rattle.auction.specs.declared.Tier.{Tier}

-- the shares of the orders at the front that stand at p
unfoldable pub run_of : ℕ → List Order → ℕ
run_of p [] = 0
run_of p (o ∷ os) = if eqb o.price p then o.left + run_of p os else 0

-- and how many they are
unfoldable pub alike : ℕ → List Order → ℕ
alike p [] = 0
alike p (o ∷ os) = if eqb o.price p then suc (alike p os) else 0

-- both, of orders that stand from a place on
unfoldable pub tier_from : ℕ → ℕ → List Order → Tier
tier_from from p os = record { shares = run_of p os; behind = from + alike p os }
