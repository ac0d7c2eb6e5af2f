-- `evenings::moving::move_lists` meets its contract: the main book's move, what is due after the close, and the answer. Assumes nothing.
use mathlib.Core.Path.{refl}
use Rattle.evenings.proofs.Rooms.{same_room}
use Rattle.evenings.proofs.MoveLaws.{move_accepted}
use Rattle.evenings.proofs.Whole.{main_fits, begun_stage, begun_spacious, begun_room, begun_unconfirmed, main_then, main_ranked, auctions_are, done_stage, done_publishable}
use Rattle.evenings.proofs.moving.move_lists.Goals as goal

pub pass_stops-passage-requires : goal.pass_stops-passage-requires
pass_stops-passage-requires c =
    let a = c.args in
    let m = c.requires.movable in
    record { ready = m.ready; time_le_time = m.onward; time_bound = m.time; rows_in_bounds = main_fits a.d a.time a.main.now a.fixed.now a.blocks.now a.trades.now m c.requires.blocks_in_bounds }

pub after_close-done-requires : goal.after_close-done-requires
after_close-done-requires c =
    let a = c.args in
    let m = c.requires.movable in
    let space = begun_spacious a.d a.time a.main.now a.fixed.now a.blocks.now a.trades.now m c.pass_stops-passage.ensures in record { lined = m.lined; declared = m.declared; shares_bound = space.0; spacious = space.1; fixed_in_bounds = begun_room a.d a.time a.main.now a.fixed.now a.blocks.now a.trades.now m c.pass_stops-passage.ensures c.pass_stops-passage.auto.trades c.requires.blocks_in_bounds }

pub answer_of-requires : goal.answer_of-requires
answer_of-requires c =
    let a = c.args in
    let m = c.requires.movable in
    let reached = c.pass_stops-passage.ensures in record {
      ranked = main_ranked a.d a.time a.main.now a.fixed.now a.blocks.now a.trades.now m reached;
      auctions_in_bounds = same_room c.after_close-done.auto.trades reached.within;
      publishable = done_publishable a.d a.time a.main.now a.fixed.now a.blocks.now a.trades.now m
          (done_stage a.d a.time a.main.now a.fixed.now a.blocks.now a.trades.now m
          (c.after_close-done.ensures _ a.trades.now (begun_unconfirmed a.d a.time a.main.now a.fixed.now a.blocks.now a.trades.now m)
          (begun_stage a.d a.time a.main.now a.fixed.now a.blocks.now a.trades.now m reached)));
    }

pub returns : goal.returns
returns c =
    let a = c.args in
    let m = c.requires.movable in
    let reached = c.pass_stops-passage.ensures in
    λ none.
    move_accepted a.d a.time a.main.now a.fixed.now a.blocks.now a.trades.now none c.after_close-done.result c.pass_stops-passage.new.rows c.after_close-done.new.fixed c.after_close-done.new.blocks c.after_close-done.new.trades refl
    (done_stage a.d a.time a.main.now a.fixed.now a.blocks.now a.trades.now m
    (c.after_close-done.ensures _ a.trades.now (begun_unconfirmed a.d a.time a.main.now a.fixed.now a.blocks.now a.trades.now m)
    (begun_stage a.d a.time a.main.now a.fixed.now a.blocks.now a.trades.now m reached)))
    (main_then a.d a.time a.main.now a.fixed.now a.blocks.now a.trades.now m reached)
    (auctions_are a.d a.time a.main.now a.fixed.now a.blocks.now a.trades.now m reached)
    c.answer_of.ensures
