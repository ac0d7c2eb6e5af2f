-- `checks::book_checks::is_outside` meets its contract: the two tests before the range, and the range. Assumes nothing.
use mathlib.Core.Path.{◌≡◌}
use mathlib.Core.Bool.{◌&&◌}
use lib.Dec.{eqb}
use borrow.Author.Tests.{eq-eqb, ne_eqb}
use Rattle.model.proofs.Bools.{and_yes}
use Rattle.checks.proofs.BookRules.{and_first, by_range, not_by_range}
use Rattle.checks.proofs.book_checks.is_outside.Goals as goal
use Rattle.checks.proofs.book_checks.is_outside.Goals.{Joined-a-eq0, then-a-eq0, else-a-eq0}

-- a limit order in continuous trading
ranged : (c : Joined-a-eq0) → c.if-a-eq0.t-5 ≡ (eqb c.args.a.kind 0 && eqb c.args.phase 4)
ranged c =
    let a = c.args in
    elim c.if-a-eq0.branch [
      | then-a-eq0 w ↦ and_yes (eqb a.phase 4) (eq-eqb a.a.kind 0 w.if-a-eq0.true) w.t-5-is
      | else-a-eq0 w ↦ and_first (eqb a.phase 4) (ne_eqb a.a.kind 0 w.if-a-eq0.false) w.t-5-is
    ]

pub returns-then-phase-eq-CONTINUOUS : goal.returns-then-phase-eq-CONTINUOUS
returns-then-phase-eq-CONTINUOUS c =
    by_range c.args.a c.args.phase c.args.base (ranged (goal.at.returns-then-phase-eq-CONTINUOUS c).Joined-a-eq0) c.if-phase-eq-CONTINUOUS.true-raw c.requires.base_value c.requires.price_value c.in_range.ensures

pub returns-else-phase-eq-CONTINUOUS : goal.returns-else-phase-eq-CONTINUOUS
returns-else-phase-eq-CONTINUOUS c =
    let a = c.args in
    not_by_range a.a a.phase a.base (ranged (goal.at.returns-else-phase-eq-CONTINUOUS c).Joined-a-eq0) c.if-phase-eq-CONTINUOUS.false-raw
