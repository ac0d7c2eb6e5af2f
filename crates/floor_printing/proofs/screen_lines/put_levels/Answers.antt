-- Five levels one after the other. Assumes nothing.
use native.Mathlib.Omega.{arith}
use Rattle.floor_printing.proofs.Screening.{room_after, level_fits, put_five}
use Rattle.floor_printing.proofs.screen_lines.put_levels.Goals as goal

pub put_level-q-requires : goal.put_level-q-requires
put_level-q-requires c =
    let a = room_after 44 176 c.put_level-p.ensures (level_fits _ _) c.requires in
    omega (arith, a)

pub put_level-r-requires : goal.put_level-r-requires
put_level-r-requires c =
    let a = room_after 44 176 c.put_level-p.ensures (level_fits _ _) c.requires in
    let b = room_after 44 132 c.put_level-q.ensures (level_fits _ _) a in
    omega (arith, b)

pub put_level-s-requires : goal.put_level-s-requires
put_level-s-requires c =
    let a = room_after 44 176 c.put_level-p.ensures (level_fits _ _) c.requires in
    let b = room_after 44 132 c.put_level-q.ensures (level_fits _ _) a in
    let d = room_after 44 88 c.put_level-r.ensures (level_fits _ _) b in
    omega (arith, d)

pub put_level-requires : goal.put_level-requires
put_level-requires c =
    let a = room_after 44 176 c.put_level-p.ensures (level_fits _ _) c.requires in
    let b = room_after 44 132 c.put_level-q.ensures (level_fits _ _) a in
    let d = room_after 44 88 c.put_level-r.ensures (level_fits _ _) b in
    room_after 44 44 c.put_level-s.ensures (level_fits _ _) d

pub returns : goal.returns
returns c =
    put_five c.args.letter c.args.ls c.put_level-p.ensures c.put_level-q.ensures c.put_level-r.ensures c.put_level-s.ensures c.put_level.ensures
