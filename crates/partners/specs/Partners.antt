-- The partner of each declaration that is held, and the confirmations as one walk over the places writes them.
use Rattle.std.specs.Prelude.{ℕ, Bool, not, ◌&&◌, List, [], ◌∷◌, map, eqb, if◌then◌else◌}
use Rattle.model.specs.declared.Declaration.{Declaration}
use Rattle.model.specs.declared.Trade.{Trade}
use Rattle.model.specs.Blocks.{is_held, confirmations}

-- the other number of the first trade that names this one as buyer or seller, 0 where none does
unfoldable pub partner_in : List Trade → ℕ → ℕ
partner_in [] n = 0
partner_in (t ∷ ts) n =
    if eqb t.buyer n then t.seller else if eqb t.seller n then t.buyer else partner_in ts n

-- for each place the number of its partner, 0 where it has none
unfoldable pub partners : List Declaration → List ℕ
partners held = map (λ x. partner_in (confirmations held) x.number) held

unfoldable pub is_buyer : Declaration → Bool
is_buyer x = is_held x && eqb x.side 0

-- the confirmation of a buyer with the seller of this number
unfoldable pub confirmed_with : Declaration → ℕ → Trade
confirmed_with b n =
    record { price = b.price; quantity = b.quantity; buyer = b.number; seller = n; buyerleft = 0; sellerleft = 0 }

-- place by place, each buyer that has a partner with it
unfoldable pub agreed : List Declaration → List ℕ → List Trade
agreed [] ps = []
agreed (x ∷ held) [] = []
agreed (x ∷ held) (p ∷ ps) =
    if is_buyer x && not (eqb p 0) then confirmed_with x p ∷ agreed held ps else agreed held ps

-- place by place, those that have no partner
unfoldable pub alone : List Declaration → List ℕ → List Declaration
alone [] ps = []
alone (x ∷ held) [] = []
alone (x ∷ held) (p ∷ ps) = if eqb p 0 then x ∷ alone held ps else alone held ps
