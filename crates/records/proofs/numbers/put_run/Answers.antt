-- `records::numbers::put_run` meets its contract: the invariant is `Counting`. Assumes nothing.
use Rattle.records.proofs.Counted.{counting_start, counting_next, counting_end}
use Rattle.records.proofs.numbers.put_run.Goals as goal

pub loop-i-init : goal.loop-i-init
loop-i-init c = counting_start _ _ _

pub loop-i-preserved : goal.loop-i-preserved
loop-i-preserved c =
    counting_next _ _ _ c.loop-i.invariant c.loop-i-test.true c.put_number.ensures

pub returns : goal.returns
returns c = counting_end _ _ _ c.requires.0 c.loop-i.invariant c.loop-i-test.false
