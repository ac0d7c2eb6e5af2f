-- The lines of the whole blocks fit their room; then the tail goes to the buffer's front. Assumes nothing.
use Rattle.std.proofs.Common.{arith, length-take-le}
use Rattle.rescue_file.proofs.Turns.{lists}
use Rattle.rescue_file.proofs.serving.list.Goals as goal

pub list_blocks-told-requires : goal.list_blocks-told-requires
list_blocks-told-requires g c =
    let s = c.requires in
    let l = length-take-le c.args.h.kept c.args.buf.now s.0 in
    (omega (arith, s, l), omega (arith, s, l), omega (arith, s, l))

pub slice_bounds-tell-end : goal.slice_bounds-tell-end
slice_bounds-tell-end g c = omega (arith, c.list_blocks-told.ensures.room, c.list_blocks-told.auto.said)

pub returns : goal.returns
returns g c = lists c.args.buf.now _ c.args.h c.requires.0 c.to_front.ensures
