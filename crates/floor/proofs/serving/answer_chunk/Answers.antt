-- A round that is not done passed a line, and a point that goes onward keeps the floor sound. Assumes nothing.
use Rattle.std.proofs.Common.{arith, ◌∙◌}
use Rattle.text.proofs.LineByLine.{onward_none, onward_more, onward_kept}
use Rattle.text.proofs.Turns.{put_within}
use Rattle.wishes.specs.Wishes.{floor}
use Rattle.floor_chunks.specs.Points.{point_of}
use Rattle.floor_chunks.proofs.SoundFloors.{SoundFloor, floor_sound}
use Rattle.floor.proofs.serving.answer_chunk.Goals as goal

pub loop-p-init : goal.loop-p-init
loop-p-init g c = (
  c.requires.noted_bound.0,
  onward_none floor c.args.chunk.now (point_of c.args.from c.args.rows.now c.args.claims.now) c.requires.rows_len.4,
)

pub answer_lines-p-requires-clause-rows_len : goal.answer_lines-p-requires-clause-rows_len
answer_lines-p-requires-clause-rows_len g c =
    let s = c.requires.rows_len in
    let same = c.loop-p.auto in
    (same.rows ∙ s.0, same.trades ∙ s.1, same.claims ∙ s.2, omega (arith, same.out, s.3), c.loop-p.invariant.1.inside)

pub answer_lines-p-requires-clause-noted_bound : goal.answer_lines-p-requires-clause-noted_bound
answer_lines-p-requires-clause-noted_bound g c =
    let i = c.loop-p.invariant in
    (i.0, onward_kept floor _ SoundFloor floor_sound i.1 c.requires.noted_bound.1)

pub slice_bounds-reply-end : goal.slice_bounds-reply-end
slice_bounds-reply-end g c = put_within c.answer_lines-p.ensures.serves.text

pub returns-then-p-clause-onward : goal.returns-then-p-clause-onward
returns-then-p-clause-onward g c =
    let a = c.answer_lines-p.ensures.serves in
    λ e. (onward_more floor _ c.loop-p.invariant.1 a.answers.onward, a.all e)

pub loop-p-smaller : goal.loop-p-smaller
loop-p-smaller g c =
    let a = c.answer_lines-p.ensures.serves in
    omega (arith, a.some c.if-p.false, a.answers.onward.inside)

pub loop-p-preserved : goal.loop-p-preserved
loop-p-preserved g c =
    let a = c.answer_lines-p.ensures in
    (a.noted_bound_2, onward_more floor _ c.loop-p.invariant.1 a.serves.answers.onward)
