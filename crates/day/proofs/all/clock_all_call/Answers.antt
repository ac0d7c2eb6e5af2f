-- `day::all::clock_all_call` meets its contract: 15 by one of three tests, else the move on sound lists. Assumes nothing.
use mathlib.Core.Path.{◌≡◌, refl, sym, ap, ◌∙◌}
use mathlib.Core.Bool.{true, false, ◌&&◌}
use lib.ListN.{length}
use borrow.Author.Tests.{eqb-false, not-true, not-false}
use Rattle.model.specs.declared.MoveAnswer.{MoveAnswer}
use Rattle.model.specs.Sound.{has_places, sound}
use Rattle.model.specs.Refusals.{unsound, unsound_fixed}
use Rattle.book.specs.Books.{books_of}
use Rattle.book.specs.Promises.{clock_all_left}
use Rattle.soundness.proofs.Readiness.{is_unsound, not_unsound}
use Rattle.evenings.proofs.MoveLaws.{move_unsound, move_refused_lem}
use Rattle.day.proofs.Alls.{close_priced, fixed_fits_lem, blocks_fit_lem, main_unsound, line_unsound, held_unsound, fixed_told, blocks_told}
use Rattle.day.proofs.all.clock_all_call.Goals as goal
use Rattle.day.proofs.all.clock_all_call.Goals.{Else-not-fixed_sound, Else-not-is_sound}

day_sound : (c : Else-not-is_sound) → (has_places c.args.main.now && sound c.args.d c.args.main.now) ≡ true
day_sound c = sym c.is_sound.ensures ∙ not-false _ c.if-not-is_sound.false-raw

day_told : (c : Else-not-is_sound) → unsound c.args.d c.args.main.now ≡ false
day_told c = not_unsound c.args.d _ c.is_sound.ensures (not-false _ c.if-not-is_sound.false-raw)

line-told : (c : Else-not-fixed_sound) → unsound_fixed c.args.d c.args.fixed.now ≡ false
line-told c = fixed_told c.args.d _ c.fixed_sound.ensures (not-false _ c.if-not-fixed_sound.false-raw)

pub returns-then-not-is_sound : goal.returns-then-not-is_sound
returns-then-not-is_sound c =
    let a = c.args in
    let lists = books_of a.main.now a.fixed.now a.blocks.now in
    ap (λ (r : MoveAnswer). clock_all_left r a.main.now a.fixed.now a.blocks.now a.trades.now) c.move_refused.ensures
    ∙ move_refused_lem a.d a.time a.main.now a.fixed.now a.blocks.now a.trades.now
    (move_unsound a.d a.time lists (length a.trades.now) (main_unsound a.d lists (is_unsound a.d _ c.is_sound.ensures (not-true _ c.if-not-is_sound.true-raw))))
    (eqb-false 15 0 refl)

pub fixed_sound-requires : goal.fixed_sound-requires
fixed_sound-requires c =
    let e = day_sound c in
    record { close_value = close_priced c.args.d _ e; d_value = fixed_fits_lem c.args.d _ e }

pub returns-then-not-fixed_sound : goal.returns-then-not-fixed_sound
returns-then-not-fixed_sound c =
    let a = c.args in
    let lists = books_of a.main.now a.fixed.now a.blocks.now in
    ap (λ (r : MoveAnswer). clock_all_left r a.main.now a.fixed.now a.blocks.now a.trades.now) c.move_refused-then-not-fixed_sound.ensures
    ∙ move_refused_lem a.d a.time a.main.now a.fixed.now a.blocks.now a.trades.now
    (move_unsound a.d a.time lists (length a.trades.now) (line_unsound a.d lists (day_told (goal.at.returns-then-not-fixed_sound c).Else-not-is_sound) (fixed_told a.d _ c.fixed_sound.ensures (not-true _ c.if-not-fixed_sound.true-raw))))
    (eqb-false 15 0 refl)

pub blocks_sound-requires : goal.blocks_sound-requires
blocks_sound-requires c =
    let e = day_sound (goal.at.blocks_sound-requires c).Else-not-is_sound in
    record { close_value = close_priced c.args.d _ e; d_value = blocks_fit_lem c.args.d _ e }

pub returns-then-not-blocks_sound : goal.returns-then-not-blocks_sound
returns-then-not-blocks_sound c =
    let a = c.args in
    let lists = books_of a.main.now a.fixed.now a.blocks.now in
    ap (λ (r : MoveAnswer). clock_all_left r a.main.now a.fixed.now a.blocks.now a.trades.now) c.move_refused-then-not-blocks_sound.ensures
    ∙ move_refused_lem a.d a.time a.main.now a.fixed.now a.blocks.now a.trades.now
    (move_unsound a.d a.time lists (length a.trades.now) (held_unsound a.d lists (day_told (goal.at.returns-then-not-blocks_sound c).Else-not-is_sound) (line-told (goal.at.returns-then-not-blocks_sound c).Else-not-fixed_sound) (blocks_told a.d _ c.blocks_sound.ensures (not-true _ c.if-not-blocks_sound.true-raw))))
    (eqb-false 15 0 refl)

pub clock_all_sound-requires : goal.clock_all_sound-requires
clock_all_sound-requires c =
    record { main_value = day_told (goal.at.clock_all_sound-requires c).Else-not-is_sound; fixed_value = line-told (goal.at.clock_all_sound-requires c).Else-not-fixed_sound; blocks_value = blocks_told c.args.d _ c.blocks_sound.ensures (not-false _ c.if-not-blocks_sound.false-raw) }
