-- What was kept is few bytes, and so few blocks. Assumes nothing.
use Rattle.std.proofs.Common.{arith, length-take-le}
use Rattle.unpack_file.proofs.Turns.{rest_few}
use Rattle.unpack_file.proofs.serving.finish.Goals as goal

pub unpack_rest-done-requires : goal.unpack_rest-done-requires
unpack_rest-done-requires g c =
    let s = c.requires in
    let l = length-take-le c.args.h.kept c.args.buf.now (omega (arith, s)) in
    (omega (arith, s, l), omega (arith, s, l))

pub show-requires : goal.show-requires
show-requires g c =
    let s = c.requires in
    let p = c.unpack_rest-done in (
      omega (arith, p.ensures.room, p.auto.out),
      s.3,
      rest_few c.args.buf.now c.args.h.kept c.args.h.passed s.0 s.1 p.ensures.good,
    )
