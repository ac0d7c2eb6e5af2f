-- What is due fits the output. Assumes nothing.
use Rattle.std.proofs.Common.{arith, sym, length-take-le}
use Rattle.printing.proofs.Printed.{put_long}
use Rattle.text.proofs.Turns.{end_fits_lem}
use Rattle.floors.specs.Floor.{no_floor}
use Rattle.wishes.specs.Wishes.{floor}
use Rattle.floor.proofs.Outset.{refused_16}
use Rattle.floor.proofs.serving.finish.Goals as goal

pub slice_bounds-reply-end : goal.slice_bounds-reply-end
slice_bounds-reply-end g c =
    let h = c.args.h in
    let w = c.put_end-n.ensures in
    omega (arith, w.place, end_fits_lem floor no_floor refused_16 (record { kept = h.kept; long = h.long }), put_long w, c.requires)

pub slice_bounds-reply-end-2 : goal.slice_bounds-reply-end-2
slice_bounds-reply-end-2 g c = sym (length-take-le _ _ (slice_bounds-reply-end g c))
