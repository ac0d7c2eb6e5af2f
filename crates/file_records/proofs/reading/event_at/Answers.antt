-- `file_records::reading::event_at` meets its contract. Assumes nothing.
use Rattle.std.proofs.Common.{rules, tests}
use Rattle.file_records.proofs.Looking.{tells_open, tells_clock, tells_order, tells_cancel}
use Rattle.file_records.proofs.reading.event_at.Goals as goal

pub returns-in-1 : goal.returns-in-1
returns-in-1 c = tells_open _ _ c.requires c.number_at-first.ensures c.number_at-second.ensures c.in-1.is

pub returns-in-2 : goal.returns-in-2
returns-in-2 c = tells_clock _ _ c.requires c.number_at-first.ensures c.number_at-second.ensures c.in-2.is

pub returns-in-3 : goal.returns-in-3
returns-in-3 c =
    tells_order _ _ c.requires c.number_at-first.ensures c.number_at-second.ensures c.in-3.is
    c.from.ensures c.from-in-3.ensures c.number_at.ensures c.number_at-in-3.ensures

pub returns-in_default : goal.returns-in_default
returns-in_default c =
    tells_cancel _ _ c.requires c.number_at-first.ensures c.number_at-second.ensures
    (search (rules, tests)) (search (rules, tests)) (search (rules, tests))
