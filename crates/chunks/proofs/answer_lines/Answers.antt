-- The replies put so far answer the chunk up to the place that is reached; one more line is one more reply. Assumes nothing.
use mathlib.Core.Path.{refl, sym, ap, ◌∙◌}
use native.Mathlib.Omega.{arith}
use Rattle.chunks.specs.declared.Progress.{Progress}
use Rattle.chunks.specs.Points.{point_of}
use Rattle.chunks.specs.SoundDesk.{SoundDesk}
use Rattle.text.specs.Answers.{rehearsal}
use Rattle.text.proofs.Chunks.{taken, all_taken}
use Rattle.text.proofs.LineByLine.{going_start, going_on, going_through, going_full, onward_kept}
use Rattle.chunks.proofs.SoundDesks.{stays_sound, never_15}
use Rattle.chunks.proofs.answer_lines.Goals as goal

pub loop-p-init : goal.loop-p-init
loop-p-init c =
    (refl, refl, refl, going_start rehearsal c.args.chunk.now (point_of c.args.from c.args.rows.now) c.args.out.now c.requires.3)

pub shape_of-rows-in_default : goal.shape_of-rows-in_default
shape_of-rows-in_default c = c.loop-p.invariant.0

pub shape_of-trades-in_default : goal.shape_of-trades-in_default
shape_of-trades-in_default c = c.loop-p.invariant.1

pub shape_of-out-in_default : goal.shape_of-out-in_default
shape_of-out-in_default c = c.loop-p.invariant.2

pub returns-in_default : goal.returns-in_default
returns-in_default c =
    let s = c.args in
    going_through rehearsal s.chunk.now _ s.out.now c.loop-p.invariant.3
    (all_taken s.chunk.now _ _ (sym c.in_default.ensures))

pub answer_command-a-requires : goal.answer_command-a-requires
answer_command-a-requires c =
    let i = c.loop-p.invariant in
    let s = c.requires in (
      i.0 ∙ s.0,
      i.1 ∙ s.1,
      omega (arith, i.2, s.2, c.loop-p-test.true),
      never_15 _ _ (onward_kept rehearsal _ SoundDesk stays_sound i.3.answers.onward s.4),
    )

pub loop-p-smaller : goal.loop-p-smaller
loop-p-smaller c =
    -- the line that was taken
    let n = taken c.args.chunk.now c.loop-p.p.at c.loop-p.p.long _ _ (sym c.in-Some.ensures) in
    omega (arith, n.onward, n.inside, ap (λ (p : Progress). p.at) c.past_line-p.ensures)

pub loop-p-preserved : goal.loop-p-preserved
loop-p-preserved c =
    let s = c.args in
    let i = c.loop-p.invariant in
    let a = c.answer_command-a in
    let n = taken s.chunk.now c.loop-p.p.at c.loop-p.p.long _ _ (sym c.in-Some.ensures) in (
      a.auto.rows ∙ i.0,
      a.auto.trades ∙ i.1,
      a.auto.out ∙ i.2,
      rw c.past_line-p.ensures (going_on rehearsal s.chunk.now _ s.out.now i.3 _ _ n a.ensures.leaves.text a.ensures.leaves.fits _ a.ensures.leaves.desk),
    )

pub shape_of-rows : goal.shape_of-rows
shape_of-rows c = c.loop-p.invariant.0

pub shape_of-trades : goal.shape_of-trades
shape_of-trades c = c.loop-p.invariant.1

pub shape_of-out : goal.shape_of-out
shape_of-out c = c.loop-p.invariant.2

pub returns : goal.returns
returns c =
    let s = c.args in
    going_full rehearsal s.chunk.now _ s.out.now c.loop-p.invariant.3 (omega (arith, c.loop-p-test.false))
