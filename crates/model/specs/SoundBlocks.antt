-- When the declarations are sound (02: #108), on a sound day: Sound has the clauses that read the day alone.
use Rattle.std.specs.Prelude.{Bool, not, ◌&&◌, ◌||◌, List, leb, ltb, eqb}
use Rattle.model.specs.declared.Declaration.{Declaration}
use Rattle.model.specs.declared.Day.{Day}
use Rattle.model.specs.Lists.{all, any}
use Rattle.model.specs.Clock.{confirming_from}
use Rattle.model.specs.Limits.{is_price, in_band}
use Rattle.model.specs.Arrival.{in_arrival}
use Rattle.model.specs.Sound.{between}
use Rattle.model.specs.Blocks.{is_held, is_block, fits}

unfoldable pub is_undeclared : Declaration → Bool
is_undeclared x =
    eqb x.side 0
    && eqb x.account 0
    && eqb x.counter 0
    && eqb x.quantity 0
    && eqb x.price 0
    && eqb x.agreement 0
    && eqb x.number 0

-- well formed: a side, accounts that aren't 0, on a limited day a price in the band, the size of a block, and a number among
-- those issued
unfoldable pub is_declaration : Day → Declaration → Bool
is_declaration d x =
    leb x.side 1
    && not (eqb x.account 0)
    && not (eqb x.counter 0)
    && eqb d.limited 1
    && is_price x.price
    && is_block x.price x.quantity
    && in_band d.close x.price
    && leb 1 x.number
    && leb x.number d.blocks.issued

unfoldable pub sound_blocks : Day → List Declaration → Bool
sound_blocks d held =
    all (λ x. is_undeclared x || is_declaration d x) held
    -- in order of arrival, free places last
    && in_arrival (λ x. x.number) held
    -- none due to be lapsed: none is held before 9:15 or from 15:30
    && (between 33_300 55_799 d.time || not (any is_held held))
    -- none due to be confirmed
    && (ltb d.time confirming_from || not (any (λ x. any (fits x) held) held))
