-- `wire::files::flemorix_read_file` meets its contract: the list, and its reply. Assumes nothing.
use Rattle.wire.proofs.Filed.{file_answered}
use Rattle.wire.proofs.files.flemorix_read_file.Goals as goal

pub returns : goal.returns
returns c =
    let a = c.args in
    file_answered a.file.now a.records.now a.reply.now c.list_records.ensures c.found_numbers-row.ensures c.put_reply.ensures
