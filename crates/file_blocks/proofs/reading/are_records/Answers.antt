-- `file_blocks::reading::are_records` meets its contract: the invariant is `Checking`. Assumes nothing.
use Rattle.file_blocks.proofs.Looking.{checking_no, checking_next, checking_end}
use Rattle.file_blocks.proofs.reading.are_records.Goals as goal

pub returns-then-not-is_record : goal.returns-then-not-is_record
returns-then-not-is_record c =
    checking_no _ _ c.loop-i.invariant c.loop-i-test.true c.is_record.ensures c.if-not-is_record.true

pub loop-i-preserved : goal.loop-i-preserved
loop-i-preserved c =
    checking_next _ _ c.loop-i.invariant c.loop-i-test.true c.is_record.ensures c.if-not-is_record.false

pub returns : goal.returns
returns c = checking_end _ _ c.loop-i.invariant c.loop-i-test.false
