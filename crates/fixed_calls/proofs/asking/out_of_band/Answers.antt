-- No band on an unlimited day.
use Rattle.fixed_calls.proofs.AskedRules.{unlimited, by_band}
use Rattle.fixed_calls.proofs.asking.out_of_band.Goals as goal

pub returns-then-d-ne1 : goal.returns-then-d-ne1
returns-then-d-ne1 c = let a = c.args in unlimited a.d a.price c.if-d-ne1.true

pub returns : goal.returns
returns c =
    by_band c.args.d c.args.price c.if-d-ne1.false c.requires.close_value c.requires.price_value c.in_band.ensures
