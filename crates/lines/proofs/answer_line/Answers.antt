-- Memory that does not fit is left; else 15, or the answer. Assumes nothing.
use mathlib.Core.Path.{◌≡◌, refl, sym, ◌∙◌}
use mathlib.Core.Bool.{true}
use native.Mathlib.Omega.{arith}
use lib.ListN.{length}
use Rattle.model.proofs.Bools.{not_both}
use Rattle.lines.specs.OneLine.{fits}
use Rattle.desk.proofs.Answers.{as_asked}
use Rattle.lines.proofs.AnyMemory.{fitting, refused_15}
use Rattle.lines.proofs.answer_line.Goals as goal
use Rattle.lines.proofs.answer_line.Goals.{Else-not-serves}

pub returns-then-not-serves : goal.returns-then-not-serves
returns-then-not-serves c =
    let u = sym c.serves.ensures ∙ c.if-not-serves.true in
    record { given = λ g. absurd (not_both g u); unfit = λ n. (refl, refl, refl, refl) }

-- past the first test the memory fits
served : (c : Else-not-serves) → let a = c.args in fits (length a.rows.now) (length a.trades.now) (length a.out.now) ≡ true
served c = sym c.serves.ensures ∙ c.if-not-serves.false

pub refuse-a-requires : goal.refuse-a-requires
refuse-a-requires c =
    let f = fitting _ _ _ (served (goal.at.refuse-a-requires c).Else-not-serves) in
    omega (arith, f.2)

pub returns-then-asks_unsound : goal.returns-then-asks_unsound
returns-then-asks_unsound c =
    let a = c.args in
    let f = fitting _ _ _ (served (goal.at.returns-then-asks_unsound c).Else-not-serves) in
    record {
      given = λ g. (
        c.refuse-a.result,
        refl,
        as_asked (sym c.command_of-c.ensures)
            (refused_15 a.rows.now a.trades.now c.refuse-a.result (omega (arith, f.2)) c.refuse-a.ensures.1 a.desk _ c.refuse-a.ensures.0
            (sym c.asks_unsound.ensures ∙ c.if-asks_unsound.true)),
      );
      unfit = λ n. absurd (not_both (served (goal.at.returns-then-asks_unsound c).Else-not-serves) n);
    }

pub answer_command-a-requires : goal.answer_command-a-requires
answer_command-a-requires c =
    let f = fitting _ _ _ (served (goal.at.answer_command-a-requires c).Else-not-serves) in
    (f.0, f.1, omega (arith, f.2), sym c.asks_unsound.ensures ∙ c.if-asks_unsound.false)

pub returns : goal.returns
returns c =
    let a = c.args in
    record {
      given = λ g. (
        c.answer_command-a.result,
        refl,
        as_asked (sym c.command_of-c.ensures) c.answer_command-a.ensures,
      );
      unfit = λ n. absurd (not_both (served (goal.at.returns c).Else-not-serves) n);
    }
