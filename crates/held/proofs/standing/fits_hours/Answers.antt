-- In the hours, or the first place is free and so all are.
use mathlib.Core.Path.{sym, ap, ◌∙◌}
use mathlib.Core.Bool.{not}
use Rattle.std.proofs.lemmas.List.{get_or_default}
use Rattle.model.specs.Blocks.{undeclared}
use Rattle.arrivals.proofs.Lines.{in_line}
use Rattle.held.proofs.Holding.{number_of, first_held}
use Rattle.held.proofs.standing.fits_hours.Goals as goal

pub returns-else-is_between : goal.returns-else-is_between
returns-else-is_between c =
    let rows = c.args.rows.now in
    let first = first_held rows (in_line number_of _ c.requires.rows_value) (get_or_default _ _ _ undeclared c.requires.in_bounds) in
    rw (sym c.is_between.ensures ∙ c.if-is_between.false) (ap not (c.is_held.ensures ∙ first))
