-- `pack::lines::pack_lines` meets its contract. Assumes nothing.
-- ---- the way back: from a line to its turn
use mathlib.Core.Path.{◌≡◌, refl, sym, ◌∙◌}
use Rattle.std.specs.Prelude.{Some}
use Rattle.text.specs.Chunks.{next_command}
use native.Mathlib.Omega.{arith}
use Rattle.pack.proofs.LineByLine.{going_start, going_end, going_room, going_on, going_less}
use Rattle.pack.proofs.lines.pack_lines.Goals as goal
use Rattle.pack.proofs.lines.pack_lines.Goals.{In-Some}

read :
    (k : In-Some)
    → next_command k.loop-next.p.long k.args.chunk.now k.loop-next.p.at
    ≡ Some k.in-Some.next
read k = sym k.next_command.ensures ∙ k.in-Some.is

pub loop-next-init : goal.loop-next-init
loop-next-init c = (refl, refl, refl, going_start _ _ _ _ _ _ _)

pub shape_of-block-in_default : goal.shape_of-block-in_default
shape_of-block-in_default c = c.loop-next.invariant.0

pub shape_of-out-in_default : goal.shape_of-out-in_default
shape_of-out-in_default c = c.loop-next.invariant.1

pub shape_of-said-in_default : goal.shape_of-said-in_default
shape_of-said-in_default c = c.loop-next.invariant.2

pub returns-in_default : goal.returns-in_default
returns-in_default c = going_end _ _ _ _ _ _ _ c.loop-next.invariant.3 (sym c.next_command.ensures ∙ c.in_default.is)

pub pack_command-p-requires : goal.pack_command-p-requires
pack_command-p-requires c =
    let i = c.loop-next.invariant in
    let s = c.requires in
    let room = going_room _ _ _ _ _ _ _ i.3 _ _ (read (goal.at.pack_command-p-requires c).In-Some) s.1 s.2 s.3 s.4 in
    (i.0 ∙ s.0, omega (arith, i.1, room.0), omega (arith, i.2, room.1), room.2, room.3)

pub loop-next-smaller : goal.loop-next-smaller
loop-next-smaller c =
    going_less _ _ _ _ _ _ _ c.loop-next.invariant.3 _ _ (read (goal.at.loop-next-smaller c).In-Some) _ c.pack_command-p.ensures.1

pub loop-next-preserved : goal.loop-next-preserved
loop-next-preserved c =
    let i = c.loop-next.invariant in (
      c.pack_command-p.auto.block ∙ i.0,
      c.pack_command-p.auto.out ∙ i.1,
      c.pack_command-p.auto.said ∙ i.2,
      going_on _ _ _ _ _ _ _ i.3 _ _ (read (goal.at.loop-next-preserved c).In-Some) c.pack_command-p.ensures,
    )
