-- `evenings::stops::at_three` meets its contract: nothing is due, or the confirmations stand behind the trades so far. Assumes nothing.
use native.Mathlib.Omega.{arith}
use Rattle.model.specs.AfterClose.{confirm_all}
use Rattle.evenings.proofs.Appending.{shares_of, sum_within, appended}
use Rattle.evenings.proofs.Bounds.{blocks_room}
use Rattle.evenings.proofs.Passing.{passed, not_due, is_due, three_waits, three_told}
use Rattle.evenings.proofs.Steps.{three}
use Rattle.evenings.proofs.stops.at_three.Goals as goal

pub returns-then-not-passes : goal.returns-then-not-passes
returns-then-not-passes c =
    let a = c.args in
    record { threefold = three_waits a.e a.old a.new _ c.passes.ensures c.if-not-passes.true-raw; stage = λ h lent line u s. not_due 54_000 confirm_all a.old a.new c.passes.ensures c.if-not-passes.true-raw s }

pub tally_blocks-then-requires : goal.tally_blocks-then-requires
tally_blocks-then-requires c =
    blocks_room _ c.requires.declared c.args.e.day c.requires.shares_bound c.confirm_all-dealt.ensures.value

pub overflow_add-then : goal.overflow_add-then
overflow_add-then c =
    record {
      fits =
          omega (
            arith,
            sum_within _ c.confirm_all-dealt.ensures.value c.args.e.made (c.requires.blocks_in_bounds (passed 54_000 confirm_all c.args.old c.args.new c.passes.ensures c.if-not-passes.false-raw)),
            c.well_formed,
          );
    }

pub returns : goal.returns
returns c =
    let a = c.args in
    let fits = c.requires.blocks_in_bounds (passed 54_000 confirm_all a.old a.new c.passes.ensures c.if-not-passes.false-raw) in
    let tally = c.tally_blocks-then.ensures _ (shares_of _ c.confirm_all-dealt.ensures.value) in record {
      threefold = three_told a.e a.old a.new _ c.passes.ensures c.if-not-passes.false-raw c.confirm_all-dealt.ensures.value tally;
      stage = λ h lent line u stage.
          is_due 54_000 confirm_all a.old a.new c.passes.ensures c.if-not-passes.false-raw
          (three h lent a.e line a.blocks.now a.trades.now stage u.confirmed u.fixed c.confirm_all-dealt.ensures.value
          (appended a.e.made a.trades.now c.requires.made_in_bounds _ fits c.confirm_all-dealt.ensures.trades_after)
          c.confirm_all-dealt.ensures.rows_after
          tally);
    }
