-- Confirmations place by place: what one place adds to the trades so far, and which declarations stay.
use Rattle.std.specs.Prelude.{ℕ, ◌+◌, ◌-◌, ◌≡◌, not, ◌&&◌, List, [], ◌∷◌, ◌++◌, length, set, replicate, eqb, if◌then◌else◌}
use Rattle.std.proofs.lemmas.List.Edits.{sets}
use Rattle.model.specs.declared.Declaration.{Declaration}
use Rattle.model.specs.declared.Trade.{Trade}
use Rattle.model.specs.Matching.{filled}
use Rattle.model.specs.Blocks.{undeclared}
use Rattle.book.specs.declared.Dealt.{Dealt}
use Rattle.partners.specs.Partners.{is_buyer, confirmed_with}

-- the confirmation that stands at a place with this partner: a buyer's
unfoldable pub place_trades : Declaration → ℕ → List Trade
place_trades x p = if is_buyer x && not (eqb p 0) then confirmed_with x p ∷ [] else []

-- further trades stand behind those so far, and are counted with them
pub record Added (sofar : Dealt) (ts : List Trade) (before : List Trade) (r : Dealt) (after : List Trade) : Type 0 where
  pub made : r.made ≡ sofar.made + length ts
  pub shares : r.shares ≡ sofar.shares + filled ts
  pub written : after ≡ sets before sofar.made ts

-- a declaration without a partner stands at the next place of those that stay
pub record Stayed (x : Declaration) (partner kept : ℕ) (before : List Declaration) (r : ℕ) (after : List Declaration) : Type 0 where
  pub places : r ≡ (if eqb partner 0 then kept + 1 else kept)
  pub written : after ≡ (if eqb partner 0 then set before kept x else before)

-- n places: these declarations, and free places behind them
unfoldable pub followed : ℕ → List Declaration → List Declaration
followed n xs = xs ++ replicate (n - length xs) undeclared
