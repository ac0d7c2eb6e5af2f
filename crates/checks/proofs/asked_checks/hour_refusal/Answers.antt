-- `checks::asked_checks::hour_refusal` meets its contract: each return is a law of the rules, from the tests on the way. Assumes nothing.
use mathlib.Core.Logic.{⊎_elim}
use borrow.Author.Tests.{eq-eqb, ne_eqb}
use Rattle.checks.proofs.AskedRules.{hour_shut, hour_limit, hour_market, hour_none}
use Rattle.checks.proofs.asked_checks.hour_refusal.Goals as goal
use Rattle.checks.proofs.asked_checks.hour_refusal.Goals.{else-a-ne0-via-then-a-ne0+else-d-eq0, else-a-ne0-via-else-a-ne0}

pub returns-then-not-takes : goal.returns-then-not-takes
returns-then-not-takes c =
    hour_shut c.args.d c.args.a c.requires.takes_value c.requires.phase_value c.if-not-takes.true

pub returns-then-d-eq0 : goal.returns-then-d-eq0
returns-then-d-eq0 c =
    hour_market c.args.d c.args.a c.requires.takes_value c.requires.phase_value c.if-not-takes.false c.if-a-ne0.true
    (⊎_elim
    (λ w. rw (ne_eqb c.args.phase 4 w))
    (λ w. rw (eq-eqb c.args.phase 4 w.0, eq-eqb c.args.d.limited 0 w.1))
    c.if-d-eq0.either)

pub returns : goal.returns
returns c =
    elim c.else-a-ne0.branch [
      | else-a-ne0-via-then-a-ne0+else-d-eq0 w ↦
          hour_none c.args.d c.args.a c.requires.takes_value c.requires.phase_value c.if-not-takes.false w.if-a-ne0.true
          (rw (eq-eqb c.args.phase 4 w.if-d-eq0.false.0, ne_eqb c.args.d.limited 0 w.if-d-eq0.false.1))
      | else-a-ne0-via-else-a-ne0 w ↦ hour_limit c.args.d c.args.a c.requires.takes_value c.requires.phase_value c.if-not-takes.false w.if-a-ne0.false
    ]
