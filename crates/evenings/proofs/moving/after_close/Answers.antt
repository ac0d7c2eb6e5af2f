-- `evenings::moving::after_close` meets its contract: what is due at each of the three seconds, one after the other. Assumes nothing.
use Rattle.evenings.proofs.Rooms.{same_room, three_made, three_room, five_made, five_room, still_spacious, still_unmatched}
use Rattle.evenings.proofs.moving.after_close.Goals as goal

pub at_three-confirmed-requires : goal.at_three-confirmed-requires
at_three-confirmed-requires c =
    let a = c.args in
    let room = c.requires.fixed_in_bounds in record { declared = c.requires.declared; shares_bound = c.requires.shares_bound; made_in_bounds = three_made a.e a.old a.new _ _ room; blocks_in_bounds = three_room a.e a.old a.new _ _ room }

pub at_five_past-matched-requires : goal.at_five_past-matched-requires
at_five_past-matched-requires c =
    let a = c.args in
    let room = same_room c.at_three-confirmed.auto.trades c.requires.fixed_in_bounds in
    let left = c.at_three-confirmed.ensures.threefold in record { lined = c.requires.lined; spacious = still_spacious a.e left c.requires.spacious; made_in_bounds = five_made a.e a.old a.new _ _ room left; fixed_in_bounds = five_room a.e a.old a.new _ _ room left }

pub returns : goal.returns
returns c =
    let a = c.args in
    λ h lent u stage.
    c.at_end.ensures _ lent _ (c.at_five_past-matched.ensures.stage _ lent _ (still_unmatched a.old a.new h u) (c.at_three-confirmed.ensures.stage h lent _ u stage))
