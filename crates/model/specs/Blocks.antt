-- Block trades by agreement (3.6): how large a block is, which two declarations fit, which are confirmed, and the places of those
-- that are held.
use Rattle.std.specs.Prelude.{ℕ, ◌*◌, Bool, not, ◌&&◌, ◌||◌, List, [], ◌∷◌, ◌++◌, map, leb, eqb, if◌then◌else◌}
use Rattle.model.specs.declared.Declaration.{Declaration}
use Rattle.model.specs.declared.Trade.{Trade}
use Rattle.model.specs.Lists.{keep, any}
use Rattle.model.specs.Book.{other}
use Rattle.model.specs.Arrival.{is_taken, in_places}
use Rattle.model.specs.Matching.{is_in}

-- a free place is all zeros
unfoldable pub undeclared : Declaration
undeclared = record { side = 0; account = 0; counter = 0; quantity = 0; price = 0; agreement = 0; number = 0 }

unfoldable pub is_held : Declaration → Bool
is_held x = is_taken (λ y. y.number) x

-- at least 100,000 shares or at least 100,000,000 fen of money (3.6.1), and at most 100,000,000 shares (H)
unfoldable pub is_block : ℕ → ℕ → Bool
is_block price q = (leb 100_000 q || leb 100_000_000 (price * q)) && leb q 100_000_000

-- the same price, quantity and agreement number, opposite sides, each naming the other's account (3.6.7)
unfoldable pub fits : Declaration → Declaration → Bool
fits x y =
    eqb x.price y.price
    && eqb x.quantity y.quantity
    && eqb x.agreement y.agreement
    && eqb x.side (other y.side)
    && eqb x.counter y.account
    && eqb y.counter x.account

-- a confirmation is a trade between declaration numbers; nothing is left of either
unfoldable pub confirmation : Declaration → Declaration → Trade
confirmation b s =
    record {
      price = b.price;
      quantity = b.quantity;
      buyer = b.number;
      seller = s.number;
      buyerleft = 0;
      sellerleft = 0;
    }

-- a buyer with the earliest that fits, if one does (a free place has no price, so it fits nobody)
unfoldable pub with_earliest : Declaration → List Declaration → List Trade
with_earliest b [] = []
with_earliest b (s ∷ held) = if fits b s then confirmation b s ∷ [] else with_earliest b held

-- those that no confirmation names
unfoldable pub unnamed : List Trade → List Declaration → List Declaration
unnamed ts held = keep (λ x. not (any (is_in x.number) ts)) held

-- one buyer after the other, with those that are still there
unfoldable pub in_turn : List Declaration → List Declaration → List Trade
in_turn [] held = []
in_turn (b ∷ bs) held =
    let ts : List Trade = with_earliest b held in
    ts ++ in_turn bs (unnamed ts held)

-- lower buyer first: held ones stand in order of arrival
unfoldable pub confirmations : List Declaration → List Trade
confirmations held = in_turn (keep (λ x. is_held x && eqb x.side 0) held) held

-- every place becomes free
unfoldable pub none_held : List Declaration → List Declaration
none_held held = map (λ _. undeclared) held

-- n places with these declarations, in order of arrival, free places last
unfoldable pub held_in : ℕ → List Declaration → List Declaration
held_in n xs = in_places (λ x. x.number) undeclared n xs
