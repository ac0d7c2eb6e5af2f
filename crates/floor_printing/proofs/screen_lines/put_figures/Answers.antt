-- Seven numbers, and the surplus with its sign. Assumes nothing.
use borrow.Author.Rules.{rules}
use mir.Syntax.{w64}
use mir.ValLaws.{to_z-of_z}
use Rattle.printing.proofs.Printed.{put_as}
use Rattle.floor_printing.proofs.Screening.{figures_line_lem}
use Rattle.floor_printing.proofs.screen_lines.put_figures.Goals as goal

pub returns : goal.returns
returns c =
    put_as (figures_line_lem c.args.s (to_z-of_z w64 _ (search rules))) c.put_signed_reply.ensures
