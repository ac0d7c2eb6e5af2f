-- What is kept is few bytes, and so few lines. Assumes nothing.
use Rattle.std.proofs.Common.{arith, length-take-le}
use Rattle.rescue_file.proofs.serving.tell_rest.Goals as goal

pub list_rest-told-requires : goal.list_rest-told-requires
list_rest-told-requires g c =
    let s = c.requires in
    let l = length-take-le c.args.h.kept c.args.buf.now (omega (arith, s)) in
    (omega (arith, s, l), omega (arith, s, l))

pub slice_bounds-tell-end : goal.slice_bounds-tell-end
slice_bounds-tell-end g c = omega (arith, c.list_rest-told.ensures.room, c.list_rest-told.auto.said)
