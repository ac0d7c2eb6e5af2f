-- The order stays where it stood, or goes up; the place without one is the check's own case. Assumes nothing.
use mathlib.Core.Path.{◌≡◌, sym, ap, ◌∙◌}
use mathlib.Core.Bool.{true}
use lib.ListN.{get_or}
use Rattle.std.proofs.lemmas.List.{get_or_default}
use Rattle.model.specs.Book.{free, is_live}
use Rattle.fixed_book.proofs.Closing.{stays_up, goes_up}
use Rattle.fixed_book.proofs.line.bring_up.Goals as goal
use Rattle.fixed_book.proofs.line.bring_up.Goals.{then-from-to, else-from-to}

pub returns : goal.returns
returns c =
    let rows = c.args.rows.now in
    let at = get_or_default rows c.args.from _ free c.requires.from_in_bounds in
    let live : is_live (get_or rows c.args.from free) ≡ true = sym (c.is_live.ensures ∙ ap is_live at) ∙ c.if-not-is_live.false in
    elim c.if-from-to.branch [
      | then-from-to w ↦ rw w.rows-is (goes_up _ _ rows at live w.if-from-to.true w.free_place.ensures)
      | else-from-to w ↦ rw w.rows-is (stays_up _ _ rows live w.if-from-to.false)
    ]
