-- `evenings::stops::at_five_past` meets its contract: nothing is due, or the trades at the close stand behind those so far. Assumes nothing.
use native.Mathlib.Omega.{arith}
use mathlib.Core.Path.{sym}
use Rattle.model.specs.AfterClose.{match_all}
use Rattle.evenings.proofs.Appending.{shares_of, sum_within, appended}
use Rattle.evenings.proofs.Bounds.{at_close, room_at, fixed_room}
use Rattle.evenings.proofs.Passing.{passed, not_due, is_due}
use Rattle.evenings.proofs.Settled.{settled_lined}
use Rattle.evenings.proofs.Steps.{five_past_lem}
use Rattle.evenings.proofs.stops.at_five_past.Goals as goal

pub returns-then-not-passes : goal.returns-then-not-passes
returns-then-not-passes c =
    let a = c.args in
    record { lined_2 = c.requires.lined; stage = λ h lent places u s. not_due 54_300 match_all a.old a.new c.passes.ensures c.if-not-passes.true-raw s }

pub settle_at_close-void-requires : goal.settle_at_close-void-requires
settle_at_close-void-requires c =
    record { lined = c.requires.lined; shares_value = sym (shares_of _ c.deal_at_close-dealt.ensures.value) }

pub tally_fixed-then-requires : goal.tally_fixed-then-requires
tally_fixed-then-requires c =
    let room = fixed_room c.args.e.day c.reference_of-close.ensures _ c.requires.lined c.requires.spacious c.deal_at_close-dealt.ensures.value in
    record { shares_bound = room.0; shares_bound_2 = room.1 }

pub overflow_add-then : goal.overflow_add-then
overflow_add-then c =
    let a = c.args in
    let fits = c.requires.fixed_in_bounds (passed 54_300 match_all a.old a.new c.passes.ensures c.if-not-passes.false-raw) in
    record {
      fits =
          omega (
            arith,
            sum_within _ c.deal_at_close-dealt.ensures.value a.e.made (room_at a.e.day c.reference_of-close.ensures _ a.e.made fits),
            c.well_formed,
          );
    }

pub returns : goal.returns
returns c =
    let a = c.args in
    let fits = c.requires.fixed_in_bounds (passed 54_300 match_all a.old a.new c.passes.ensures c.if-not-passes.false-raw) in record {
      lined_2 = settled_lined c.reference_of-close.result a.fixed.now c.requires.lined c.settle_at_close-void.ensures.rows_after;
      stage = λ h lent places u stage.
          is_due 54_300 match_all a.old a.new c.passes.ensures c.if-not-passes.false-raw
          (five_past_lem h lent a.e a.fixed.now places a.trades.now stage c.reference_of-close.result (at_close a.e.day c.reference_of-close.ensures) u.fixed
          c.deal_at_close-dealt.ensures.value
          (appended a.e.made a.trades.now c.requires.made_in_bounds _ (room_at a.e.day c.reference_of-close.ensures _ a.e.made fits) c.deal_at_close-dealt.ensures.trades_after)
          c.settle_at_close-void.ensures.rows_after
          c.settle_at_close-void.ensures.value
          (c.tally_fixed-then.ensures _ (shares_of _ c.deal_at_close-dealt.ensures.value)));
    }
