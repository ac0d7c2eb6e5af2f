-- `checks::asked_checks::asked_refusal` meets its contract: one group of rules after the other. Assumes nothing.
use Rattle.checks.proofs.AskedRules.{asked_form, asked_hour, asked_number}
use Rattle.checks.proofs.asked_checks.asked_refusal.Goals as goal

pub returns-then-form-ne0 : goal.returns-then-form-ne0
returns-then-form-ne0 c = asked_form _ _ c.form_refusal-form.ensures c.if-form-ne0.true

pub returns-then-hour-ne0 : goal.returns-then-hour-ne0
returns-then-hour-ne0 c =
    asked_hour _ _ c.form_refusal-form.ensures c.if-form-ne0.false
    c.hour_refusal-hour.ensures
    c.if-hour-ne0.true

pub returns : goal.returns
returns c =
    asked_number _ _ c.form_refusal-form.ensures c.if-form-ne0.false
    c.hour_refusal-hour.ensures
    c.if-hour-ne0.false
    c.number_refusal.ensures
