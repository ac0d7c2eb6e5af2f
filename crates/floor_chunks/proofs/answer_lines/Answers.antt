-- The replies put so far answer the chunk up to the place that is reached; one more line is one more reply. Assumes nothing.
-- ---- the way back: from a line to its turn, and from a turn to the start
use Prim.Native.Nat.{◌+◌}
use mathlib.Core.Path.{refl, sym, ap, subst, ◌∙◌}
use native.Mathlib.Omega.{arith}
use Rattle.text.proofs.Chunks.{Bounded, bounded, Taken, taken_line, none_taken}
use Rattle.text.proofs.LineByLine.{going_start, going_on, going_through, going_full, onward_kept}
use Rattle.floors.specs.declared.Wish.{Wish}
use Rattle.wishes.specs.Wishes.{wishes, floor}
use Rattle.floor_chunks.specs.declared.FloorProgress.{FloorProgress}
use Rattle.floor_chunks.specs.Points.{point_of}
use Rattle.floor_chunks.proofs.SoundFloors.{SoundFloor, floor_sound}
use Rattle.floor_chunks.proofs.answer_lines.Goals as goal
use Rattle.floor_chunks.proofs.answer_lines.Goals.{After-wish_after-w, In-Some}

-- the bounds of the line, and what it asks for
found :
    (k : In-Some)
    → Bounded k.args.chunk.now k.loop-p.p.at k.in-Some.line.start k.in-Some.line.end
found k = bounded _ _ _ _ (sym k.line_from.ensures ∙ k.in-Some.is)

read :
    (w : After-wish_after-w)
    → Taken w.args.chunk.now w.loop-p.p.at wishes w.loop-p.p.long
    w.wish_after-w.result (w.in-Some.line.end + 1)
read w =
    subst (λ (x : Wish). Taken w.args.chunk.now w.loop-p.p.at wishes w.loop-p.p.long x (w.in-Some.line.end + 1))
    (sym w.wish_after-w.ensures)
    (taken_line w.args.chunk.now w.loop-p.p.at wishes w.loop-p.p.long _ _ (sym w.line_from.ensures ∙ w.in-Some.is))

pub loop-p-init : goal.loop-p-init
loop-p-init c =
    (refl, refl, refl, refl, c.requires.noted_bound.0, going_start floor c.args.chunk.now (point_of c.args.from c.args.rows.now c.args.claims.now) c.args.out.now c.requires.rows_len.4)

pub shape_of-rows-in_default : goal.shape_of-rows-in_default
shape_of-rows-in_default c = c.loop-p.invariant.0

pub shape_of-trades-in_default : goal.shape_of-trades-in_default
shape_of-trades-in_default c = c.loop-p.invariant.1

pub shape_of-claims-in_default : goal.shape_of-claims-in_default
shape_of-claims-in_default c = c.loop-p.invariant.2

pub shape_of-out-in_default : goal.shape_of-out-in_default
shape_of-out-in_default c = c.loop-p.invariant.3

pub returns-in_default : goal.returns-in_default
returns-in_default c =
    let s = c.args in record {
      serves = going_through floor s.chunk.now _ s.out.now c.loop-p.invariant.5
          (none_taken s.chunk.now _ wishes _ (sym c.line_from.ensures ∙ c.in_default.is));
      noted_bound_2 = c.loop-p.invariant.4;
    }

pub overflow_add-place : goal.overflow_add-place
overflow_add-place c = omega (arith, found (goal.at.overflow_add-place c).In-Some)

pub slice_bounds-wish_after-count : goal.slice_bounds-wish_after-count
slice_bounds-wish_after-count c = omega (arith, found (goal.at.slice_bounds-wish_after-count c).In-Some)

pub slice_bounds-wish_after-start : goal.slice_bounds-wish_after-start
slice_bounds-wish_after-start c = omega (arith, found (goal.at.slice_bounds-wish_after-start c).In-Some)

pub slice_bounds-wish_after-end : goal.slice_bounds-wish_after-end
slice_bounds-wish_after-end c = omega (arith, found (goal.at.slice_bounds-wish_after-end c).In-Some)

pub answer_wish-a-requires : goal.answer_wish-a-requires
answer_wish-a-requires c =
    let i = c.loop-p.invariant in (
      i.0 ∙ c.requires.rows_len.0,
      i.1 ∙ c.requires.rows_len.1,
      i.2 ∙ c.requires.rows_len.2,
      i.4,
      omega (arith, i.3, c.requires.rows_len.3, c.loop-p-test.true),
      onward_kept floor _ SoundFloor floor_sound i.5.answers.onward c.requires.noted_bound.1,
    )

pub loop-p-smaller : goal.loop-p-smaller
loop-p-smaller c =
    let n = read (goal.at.loop-p-smaller c).After-wish_after-w in
    omega (arith, n.onward, n.inside, ap (λ (p : FloorProgress). p.at) c.past_line-p.ensures)

pub loop-p-preserved : goal.loop-p-preserved
loop-p-preserved c =
    let s = c.args in
    let i = c.loop-p.invariant in
    let a = c.answer_wish-a in (
      a.auto.rows ∙ i.0,
      a.auto.trades ∙ i.1,
      a.auto.claims ∙ i.2,
      a.auto.out ∙ i.3,
      rw c.past_line-p.ensures a.ensures.few,
      rw c.past_line-p.ensures (going_on floor s.chunk.now _ s.out.now i.5 _ _ (read (goal.at.loop-p-preserved c).After-wish_after-w) a.ensures.text a.ensures.fits _ a.ensures.floor),
    )

pub shape_of-rows : goal.shape_of-rows
shape_of-rows c = c.loop-p.invariant.0

pub shape_of-trades : goal.shape_of-trades
shape_of-trades c = c.loop-p.invariant.1

pub shape_of-claims : goal.shape_of-claims
shape_of-claims c = c.loop-p.invariant.2

pub shape_of-out : goal.shape_of-out
shape_of-out c = c.loop-p.invariant.3

pub returns : goal.returns
returns c =
    let s = c.args in
    record { serves = going_full floor s.chunk.now _ s.out.now c.loop-p.invariant.5 (omega (arith, c.loop-p-test.false)); noted_bound_2 = c.loop-p.invariant.4 }
