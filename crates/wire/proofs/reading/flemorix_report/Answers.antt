-- `wire::reading::flemorix_report` meets its contract: the call on bytes, and its reply. Assumes nothing.
use Rattle.wire.proofs.Readings.{report_answered}
use Rattle.wire.proofs.reading.flemorix_report.Goals as goal

pub returns : goal.returns
returns c =
    let a = c.args in
    report_answered a.day.now a.book.now a.reply.now c.read.ensures c.put_read_reply.ensures
