-- 15, or what a declaration gives where day and declarations are sound.
use mathlib.Core.Path.{refl, ap, ◌∙◌}
use borrow.Author.Tests.{eqb-false}
use Rattle.model.specs.declared.BlockAnswer.{BlockAnswer}
use Rattle.book.specs.Promises.{block_left}
use Rattle.soundness.proofs.Readiness.{is_unsound, not_unsound}
use Rattle.blocks.proofs.Readiness.{sound_day, sound_close, sound_blocks_lem, is_unsound_blocks, not_unsound_blocks, blocks_ready}
use Rattle.block_calls.proofs.Refusing.{block_unsound}
use Rattle.block_calls.proofs.Declaring.{block_refused_lem}
use Rattle.block_calls.proofs.declare_call.Goals as goal

pub returns-then-not-is_sound : goal.returns-then-not-is_sound
returns-then-not-is_sound c =
    let a = c.args in
    let u = is_unsound _ _ c.is_sound.ensures c.if-not-is_sound.true in
    ap (λ (r : BlockAnswer). block_left r a.rows.now a.trades.now) c.block_refused.ensures
    ∙ block_refused_lem a.d a.a a.main.now a.rows.now a.trades.now
    (block_unsound a.d a.a a.main.now a.rows.now _ (rw u))
    (eqb-false 15 0 refl)

pub blocks_sound-requires : goal.blocks_sound-requires
blocks_sound-requires c =
    let a = c.args in
    let s = sound_day a.d a.main.now (not_unsound _ _ c.is_sound.ensures c.if-not-is_sound.false) in
    record { close_value = sound_close a.d a.main.now s; d_value = sound_blocks_lem a.d a.main.now s }

pub returns-then-not-blocks_sound : goal.returns-then-not-blocks_sound
returns-then-not-blocks_sound c =
    let a = c.args in
    let u = not_unsound _ _ c.is_sound.ensures c.if-not-is_sound.false in
    let v = is_unsound_blocks _ _ c.blocks_sound.ensures c.if-not-blocks_sound.true in
    ap (λ (r : BlockAnswer). block_left r a.rows.now a.trades.now) c.block_refused-then-not-blocks_sound.ensures
    ∙ block_refused_lem a.d a.a a.main.now a.rows.now a.trades.now
    (block_unsound a.d a.a a.main.now a.rows.now _ (rw (u, v)))
    (eqb-false 15 0 refl)

pub declare_sound-requires : goal.declare_sound-requires
declare_sound-requires c =
    blocks_ready _ _ _ (not_unsound _ _ c.is_sound.ensures c.if-not-is_sound.false)
    (not_unsound_blocks _ _ c.blocks_sound.ensures c.if-not-blocks_sound.false)

pub returns : goal.returns
returns c =
    c.declare_sound.ensures _ (not_unsound _ _ c.is_sound.ensures c.if-not-is_sound.false)
