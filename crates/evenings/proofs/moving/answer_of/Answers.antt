-- `evenings::moving::answer_of` meets its contract: the parts of the answer. Assumes nothing.
use Rattle.moves.proofs.ClockLaws.{row_then}
use Rattle.evenings.proofs.MoveLaws.{answer_is, then_publishable}
use Rattle.evenings.proofs.moving.answer_of.Goals as goal

pub update_screen-day-requires : goal.update_screen-day-requires
update_screen-day-requires c =
    record { ranked = c.requires.ranked; n_in_bounds = c.requires.auctions_in_bounds; publishable = then_publishable c.day_at-then.ensures c.requires.publishable }

pub phase_now-requires : goal.phase_now-requires
phase_now-requires c =
    row_then c.args.e.day c.args.time c.day_at-then.ensures c.row_at.ensures

pub returns : goal.returns
returns c =
    answer_is c.args.e _ _ c.args.auctions c.args.time c.day_at-then.ensures c.phase_now.ensures c.update_screen-day.ensures
