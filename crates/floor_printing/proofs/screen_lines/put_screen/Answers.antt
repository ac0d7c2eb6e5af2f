-- The figures, the buys and the sells one after the other. Assumes nothing.
use native.Mathlib.Omega.{arith}
use Rattle.floor_printing.proofs.Screening.{room_after, figures_fit_lem, levels_fit, put_parts}
use Rattle.floor_printing.proofs.screen_lines.put_screen.Goals as goal

pub put_levels-q-requires : goal.put_levels-q-requires
put_levels-q-requires c =
    let a = room_after 171 440 c.put_figures-p.ensures (figures_fit_lem c.args.s) c.requires in
    omega (arith, a)

pub put_levels-requires : goal.put_levels-requires
put_levels-requires c =
    let a = room_after 171 440 c.put_figures-p.ensures (figures_fit_lem c.args.s) c.requires in
    room_after 220 220 c.put_levels-q.ensures (levels_fit _ _) a

pub returns : goal.returns
returns c =
    put_parts c.args.s c.put_figures-p.ensures c.put_levels-q.ensures c.put_levels.ensures
