-- What is told fits its room. Assumes nothing.
use Rattle.std.proofs.Common.{arith, sym, ◌+◌, length-take-le}
use Rattle.printing.proofs.Printed.{put_long}
use Rattle.unpack.proofs.Put.{refusal_short}
use Rattle.unpack_file.proofs.serving.show.Goals as goal

pub slice_bounds-said-end : goal.slice_bounds-said-end
slice_bounds-said-end g c =
    let a = c.args in
    let w = c.put_refused-told.ensures in
    omega (arith, w.place, put_long w, refusal_short a.done.refusal (a.passed + a.done.good + 1), c.note-said.ensures, c.requires)

pub slice_bounds-written-end-2 : goal.slice_bounds-written-end-2
slice_bounds-written-end-2 g c =
    let a = c.args in
    let t = c.put_refused-told in
    let w = t.ensures in
    sym
    (length-take-le t.result t.new.said
    (omega
    (arith, w.place, put_long w, refusal_short a.done.refusal (a.passed + a.done.good + 1), c.note-said.ensures, c.requires)))
