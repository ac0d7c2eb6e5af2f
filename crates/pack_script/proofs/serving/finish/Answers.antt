-- The last block and what is told fit what is lent. Assumes nothing.
use Rattle.std.proofs.Common.{arith, sym, length-take-le}
use Rattle.printing.proofs.Printed.{put_long}
use Rattle.pack.proofs.Ended.{last_fits, end_fits_lem}
use Rattle.pack_script.proofs.serving.finish.Goals as goal

pub slice_bounds-written-end : goal.slice_bounds-written-end
slice_bounds-written-end g c =
    let some = c.requires.waits in
    let w = c.put_last-filed.ensures some.events some.holds in
    omega (arith, w.place, last_fits some.events, put_long w, c.requires.block_len)

pub slice_bounds-written-end-2 : goal.slice_bounds-written-end-2
slice_bounds-written-end-2 g c = sym (length-take-le _ _ (slice_bounds-written-end g c))

pub slice_bounds-written-end-3 : goal.slice_bounds-written-end-3
slice_bounds-written-end-3 g c =
    let h = c.args.h in
    let w = c.put_end-told.ensures in
    omega
    (arith, w.place, end_fits_lem h.carry h.line h.records, put_long w, c.requires.block_len)

pub slice_bounds-written-end-4 : goal.slice_bounds-written-end-4
slice_bounds-written-end-4 g c = sym (length-take-le _ _ (slice_bounds-written-end-3 g c))
