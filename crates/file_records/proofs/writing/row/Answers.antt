-- `file_records::writing::row` meets its contract. Assumes nothing.
use Rattle.file_records.proofs.Written.{row_is}
use Rattle.file_records.proofs.writing.row.Goals as goal

pub returns : goal.returns
returns c = row_is _ _ _ _ c.last_bytes-a.ensures c.last_bytes-b.ensures c.last_bytes-c.ensures c.last_bytes-d.ensures
