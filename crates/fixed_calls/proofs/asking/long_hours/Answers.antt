-- Before, in, between and behind the two stretches.
use Rattle.fixed_calls.proofs.AskedRules.{too_early, in_the_morning, at_noon, from_one}
use Rattle.fixed_calls.proofs.asking.long_hours.Goals as goal

pub returns-then-time-lt33300 : goal.returns-then-time-lt33300
returns-then-time-lt33300 c = too_early _ c.if-time-lt33300.true

pub returns-then-time-lt41400 : goal.returns-then-time-lt41400
returns-then-time-lt41400 c = in_the_morning _ c.if-time-lt33300.false c.if-time-lt41400.true

pub returns-then-time-lt46800 : goal.returns-then-time-lt46800
returns-then-time-lt46800 c = at_noon _ c.if-time-lt33300.false c.if-time-lt41400.false c.if-time-lt46800.true

pub returns : goal.returns
returns c = from_one _ c.if-time-lt33300.false c.if-time-lt41400.false c.if-time-lt46800.false
