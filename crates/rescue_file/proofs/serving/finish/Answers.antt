-- What is kept of the rest is no more than the rest was. Assumes nothing.
use Rattle.std.proofs.Common.{arith}
use Rattle.rescue_file.proofs.Turns.{keeps_few}
use Rattle.rescue_file.proofs.serving.finish.Goals as goal

pub tell_rest-requires-in-Some : goal.tell_rest-requires-in-Some
tell_rest-requires-in-Some g c =
    let s = c.requires in
    let b = keeps_few _ _ c.args.h.kept c.args.buf.now c.args.h c.in-Some.ensures (omega (arith, s)) in
    (omega (arith, b.0, s), omega (arith, s.1, c.keep.auto.buf), s.2, omega (arith, b.1, s))
