-- `file_lists::list_records` meets its contract: what was counted, and the records of the events that are read. Assumes nothing.
use Rattle.file_lists.proofs.Listed.{fits_written, written_inside, list_written}
use Rattle.file_lists.proofs.list_records.Goals as goal

pub copy_records-requires : goal.copy_records-requires
copy_records-requires c =
    let a = c.args in
    written_inside a.file.now a.list.now (λ i. (c.type_inv.file i).fits) c.count_records-found.ensures (fits_written _ _ c.unwrap_or.ensures c.min-count.ensures)

pub returns : goal.returns
returns c =
    let a = c.args in
    (c.count_records-found.ensures, list_written a.file.now a.list.now (λ i. (c.type_inv.file i).fits) c.count_records-found.ensures (fits_written _ _ c.unwrap_or.ensures c.min-count.ensures) c.copy_records.ensures)
