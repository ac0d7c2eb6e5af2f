-- `moves::moving::clock_sound` meets its contract: refused, or the stops on the way, the new time and the day's phase. Assumes nothing.
use mathlib.Core.Path.{◌≡◌, refl, sym, ap, ◌∙◌}
use mathlib.Core.Logic.{⊎_elim}
use lib.ListN.{length}
use Rattle.model.specs.declared.ClockAnswer.{ClockAnswer}
use Rattle.model.specs.Refusals.{first_of}
use Rattle.model.specs.ClockCall.{clock_rules}
use Rattle.book.specs.Promises.{call_left}
use Rattle.soundness.proofs.Readiness.{ready_if}
use Rattle.moves.proofs.ClockLaws.{clock_late, clock_back, clock_list, clock_none, move_fits, clock_refused_lem, row_then, left_ranked, left_publishable, clock_accepted}
use borrow.Author.Tests.{eqb-false, ltb-false, lt-ltb}
use Rattle.moves.proofs.moving.clock_sound.Goals as goal
use Rattle.moves.proofs.moving.clock_sound.Goals.{Else-lacks_places, Joined-then-time-gt-LAST_SECOND}

-- where 1 is given, it is the first rule
untimely : (c : Joined-then-time-gt-LAST_SECOND) → 1 ≡ first_of (clock_rules c.args.d c.args.time c.args.rows.now (length c.args.trades.now))
untimely c =
    let a = c.args in
    ⊎_elim (λ w. clock_late a.d a.time a.rows.now (length a.trades.now) c.requires w)
    (λ w. clock_back a.d a.time a.rows.now (length a.trades.now) c.requires w.0 (lt-ltb a.time a.d.time w.1))
    c.then-time-gt-LAST_SECOND.either

pub returns-then-time-gt-LAST_SECOND : goal.returns-then-time-gt-LAST_SECOND
returns-then-time-gt-LAST_SECOND c =
    let a = c.args in
    ap (λ (r : ClockAnswer). call_left r a.rows.now a.trades.now) c.clock_refused.ensures
    ∙ clock_refused_lem a.d a.time a.rows.now a.trades.now (untimely (goal.at.returns-then-time-gt-LAST_SECOND c).Joined-then-time-gt-LAST_SECOND) (eqb-false 1 0 refl)

pub lacks_places-requires : goal.lacks_places-requires
lacks_places-requires c =
    record { ready = ready_if c.args.d c.args.rows.now c.requires; time_le_time = ltb-false c.args.time c.args.d.time c.if-time-d.false-raw }

pub returns-then-lacks_places : goal.returns-then-lacks_places
returns-then-lacks_places c =
    let a = c.args in
    ap (λ (r : ClockAnswer). call_left r a.rows.now a.trades.now) c.clock_refused-then-lacks_places.ensures
    ∙ clock_refused_lem a.d a.time a.rows.now a.trades.now
    (clock_list a.d a.time a.rows.now (length a.trades.now) c.requires c.if-time-gt-LAST_SECOND.false c.if-time-d.false-raw
    (sym c.lacks_places.ensures ∙ c.if-lacks_places.true))
    (eqb-false 13 0 refl)

-- where the list has the places, no rule holds
none : (c : Else-lacks_places) → 0 ≡ first_of (clock_rules c.args.d c.args.time c.args.rows.now (length c.args.trades.now))
none c =
    let a = c.args in
    clock_none a.d a.time a.rows.now (length a.trades.now) c.requires c.if-time-gt-LAST_SECOND.false c.if-time-d.false-raw
    (sym c.lacks_places.ensures ∙ c.if-lacks_places.false)

pub pass_stops-passage-requires : goal.pass_stops-passage-requires
pass_stops-passage-requires c =
    let a = c.args in record { ready = ready_if a.d a.rows.now c.requires; time_le_time = ltb-false a.time a.d.time c.if-time-d.false-raw; time_bound = c.if-time-gt-LAST_SECOND.false; rows_in_bounds = move_fits a.d a.time a.rows.now (length a.trades.now) (none (goal.at.pass_stops-passage-requires c).Else-lacks_places) refl }

pub phase_now-requires : goal.phase_now-requires
phase_now-requires c =
    let a = c.args in
    row_then c.pass_stops-passage.result.day a.time c.day_at-then.ensures c.row_at.ensures

pub update_screen-requires : goal.update_screen-requires
update_screen-requires c =
    let a = c.args in
    let ready = ready_if a.d a.rows.now c.requires in
    let left = left_ranked a.d a.time a.rows.now a.trades.now ready c.pass_stops-passage.ensures in
    record { ranked = left; n_in_bounds = c.pass_stops-passage.ensures.within; publishable = left_publishable a.d a.time a.rows.now a.trades.now ready c.pass_stops-passage.ensures c.day_at-then.ensures }

pub returns : goal.returns
returns c =
    let a = c.args in
    clock_accepted a.d a.time a.rows.now a.trades.now (none (goal.at.returns c).Else-lacks_places) c.pass_stops-passage.result
    c.pass_stops-passage.new.rows
    c.pass_stops-passage.new.trades
    refl
    c.pass_stops-passage.ensures
    c.phase_now.ensures
    c.day_at-then.ensures
    c.update_screen.ensures
