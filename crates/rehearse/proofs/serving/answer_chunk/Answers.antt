-- A round that is not done passed a line, and a point that goes onward keeps the desk sound. Assumes nothing.
use Rattle.std.proofs.Common.{arith, ◌∙◌}
use Rattle.text.specs.Answers.{rehearsal}
use Rattle.text.proofs.LineByLine.{onward_none, onward_more, onward_kept}
use Rattle.text.proofs.Turns.{put_within}
use Rattle.chunks.specs.SoundDesk.{SoundDesk}
use Rattle.chunks.specs.Points.{point_of}
use Rattle.chunks.proofs.SoundDesks.{stays_sound}
use Rattle.rehearse.proofs.serving.answer_chunk.Goals as goal

pub loop-p-init : goal.loop-p-init
loop-p-init g c = onward_none rehearsal c.args.chunk.now (point_of c.args.from c.args.rows.now) c.requires.3

pub answer_lines-p-requires : goal.answer_lines-p-requires
answer_lines-p-requires g c =
    let i = c.loop-p.invariant in
    let s = c.requires in
    let same = c.loop-p.auto in (
      same.rows ∙ s.0,
      same.trades ∙ s.1,
      omega (arith, same.out, s.2),
      i.inside,
      onward_kept rehearsal _ SoundDesk stays_sound i s.4,
    )

pub slice_bounds-reply-end : goal.slice_bounds-reply-end
slice_bounds-reply-end g c = put_within c.answer_lines-p.ensures.text

pub returns-then-p : goal.returns-then-p
returns-then-p g c =
    let a = c.answer_lines-p.ensures in
    λ e. (onward_more rehearsal _ c.loop-p.invariant a.answers.onward, a.all e)

pub loop-p-smaller : goal.loop-p-smaller
loop-p-smaller g c =
    let a = c.answer_lines-p.ensures in
    omega (arith, a.some c.if-p.false, a.answers.onward.inside)

pub loop-p-preserved : goal.loop-p-preserved
loop-p-preserved g c = onward_more rehearsal _ c.loop-p.invariant c.answer_lines-p.ensures.answers.onward
