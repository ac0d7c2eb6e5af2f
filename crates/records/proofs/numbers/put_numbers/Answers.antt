-- `records::numbers::put_numbers` meets its contract: the invariant is `Storing`, over numbers of 8 bytes. Assumes nothing.
use Rattle.octets.proofs.Digits.{length_digits}
use Rattle.records.specs.Layout.{bytes}
use Rattle.records.proofs.Runs.{storing_start, storing_next, storing_end}
use Rattle.records.proofs.numbers.put_numbers.Goals as goal

pub loop-i-init : goal.loop-i-init
loop-i-init c = storing_start _ _ _ _ _

pub loop-i-preserved : goal.loop-i-preserved
loop-i-preserved c =
    storing_next _ _ _ _ _ 0 c.loop-i.invariant c.loop-i-test.true (length_digits 8 _) c.put_number.ensures

pub returns : goal.returns
unfolding bytes
returns c = storing_end _ _ _ _ _ c.loop-i.invariant c.loop-i-test.false
