-- The places of one side's declarations, and what trades give each place.
use Rattle.std.specs.Prelude.{ℕ, suc, Bool, ◌&&◌, List, [], ◌∷◌, map, get_or, eqb, if◌then◌else◌}
use Rattle.model.specs.declared.Declaration.{Declaration}
use Rattle.model.specs.declared.Trade.{Trade}
use Rattle.model.specs.Blocks.{undeclared, is_held}
use Rattle.classes.specs.Sorting.{class_at, Sorted}
use Rattle.partners.specs.Partners.{partner_in}

-- what stands at a place
abbrev pub at : List Declaration → ℕ → Declaration
at held p = get_or held p undeclared

-- held, on this side: 0 has the buyers, 1 the sellers
unfoldable pub is_on : ℕ → Declaration → Bool
is_on side x = is_held x && eqb x.side side

-- the places of those on a side, counted from n on
unfoldable pub places_on : ℕ → ℕ → List Declaration → List ℕ
places_on side n [] = []
places_on side n (x ∷ xs) = if is_on side x then n ∷ places_on side (suc n) xs else places_on side (suc n) xs

-- for each place the number of its partner in these trades
unfoldable pub partners_in : List Trade → List Declaration → List ℕ
partners_in ts held = map (λ x. partner_in ts x.number) held

-- both sides by their places, sorted by class
pub record BothSorted (held : List Declaration) (buyers sellers : List ℕ) : Type 0 where
  pub buying : Sorted (class_at held) (places_on 0 0 held) buyers
  pub selling : Sorted (class_at held) (places_on 1 0 held) sellers
