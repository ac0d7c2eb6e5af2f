-- A new declaration, and the earliest one that it fits, whichever of the two buys.
use Rattle.std.specs.Prelude.{ℕ, suc, List, [], ◌∷◌, eqb, if◌then◌else◌}
use Rattle.model.specs.declared.Declaration.{Declaration}
use Rattle.model.specs.declared.AskedBlock.{AskedBlock}
use Rattle.model.specs.declared.Trade.{Trade}
use Rattle.model.specs.declared.Day.{Day}
use Rattle.model.specs.Figures.{next_block}
use Rattle.model.specs.Blocks.{fits, confirmation}

-- what is asked, under the next number
unfoldable pub asking : Day → AskedBlock → Declaration
asking d a =
    record {
      side = a.side;
      account = a.account;
      counter = a.counter;
      quantity = a.quantity;
      price = a.price;
      agreement = a.agreement;
      number = next_block d;
    }

-- the place of the earliest one that fits, or the number of places where none does
unfoldable pub earliest : Declaration → List Declaration → ℕ
earliest x [] = 0
earliest x (y ∷ held) = if fits x y then 0 else suc (earliest x held)

-- the confirmation of a new one with the one that it fits
unfoldable pub joining : Declaration → Declaration → Trade
joining x y = if eqb x.side 0 then confirmation x y else confirmation y x

-- the new one with the earliest that fits, if one does
unfoldable pub meeting : Declaration → List Declaration → List Trade
meeting x [] = []
meeting x (y ∷ held) = if fits x y then joining x y ∷ [] else meeting x held
