-- A declaration's rules, in the groups in which the code goes through them: what is asked and when, the places, and the lent list.
-- Law `block_groups` says that these are the rules of #108, in its order.
use Rattle.std.specs.Prelude.{ℕ, not, ◌||◌, List, [], ◌∷◌, length, leb, ltb, eqb}
use Rattle.model.specs.declared.Declaration.{Declaration}
use Rattle.model.specs.declared.AskedBlock.{AskedBlock}
use Rattle.model.specs.declared.Day.{Day}
use Rattle.model.specs.Lists.{all}
use Rattle.model.specs.Clock.{long_hours}
use Rattle.model.specs.Limits.{is_price, in_band}
use Rattle.model.specs.Blocks.{is_held, is_block}
use Rattle.model.specs.Refusals.{Rule, ◌when◌}
use Rattle.model.specs.BlockCalls.{block_trades}

unfoldable pub asked_rules : Day → AskedBlock → List Rule
asked_rules d a =
    2 when (not (leb a.side 1))
    ∷ 3 when (eqb a.account 0 || eqb a.counter 0)
    ∷ 21 when (not (long_hours d.time))
    ∷ 23 when (eqb d.limited 0)
    ∷ 7 when (not (is_price a.price))
    ∷ 22 when (not (is_block a.price a.quantity))
    ∷ 8 when (not (in_band d.close a.price))
    ∷ []

-- the places, the numbers, and a lent list of so many places
unfoldable pub place_rules : Day → AskedBlock → List Declaration → ℕ → List Rule
place_rules d a held room =
    10 when (all is_held held)
    ∷ 11 when (eqb d.blocks.issued 999_999)
    ∷ 13 when (ltb room (length (block_trades d a held)))
    ∷ []
