-- What a sound day gives of its declarations: each as it may be held, all in order of arrival.
use Rattle.std.specs.Prelude.{◌≤◌, ◌≡◌, true, List, length}
use Rattle.model.specs.declared.Declaration.{Declaration}
use Rattle.model.specs.Arrival.{in_arrival}
use Rattle.model.specs.Blocks.{undeclared}
use Rattle.model.specs.Words.{Each}

-- a place is free, or has a declaration with a side, a price, shares within the bound and a number
pub record WellFormed (x : Declaration) : Type 0 where
  pub side : x.side ≤ 1
  pub quantity : x.quantity ≤ 100_000_000
  pub price : x.price ≤ 999_999
  pub number : x.number ≤ 999_999
  pub none : x.number ≡ 0 → x ≡ undeclared
  pub priced : (x.number ≡ 0 → ⊥) → 1 ≤ x.price

-- all that the functions below the calls ask of the declarations in memory
pub record Declared (held : List Declaration) : Type 0 where
  pub formed : Each WellFormed held
  pub arrived : in_arrival (λ x. x.number) held ≡ true
  pub few : length held ≤ 4_096
