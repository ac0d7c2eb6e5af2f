-- What was kept fits the buffer, and what was read stands after it, so that the chunk is served. Assumes nothing.
use Rattle.std.proofs.Common.{arith, rules}
use Rattle.std.proofs.lemmas.Option.{IfSome_then}
use Rattle.rescue_file.proofs.Turns.{turned, reached_few}
use Rattle.rescue_file.proofs.serving.turn.Goals as goal

pub fill-requires : goal.fill-requires
fill-requires g c = omega (arith, c.requires.buf_len.0, reached_few c.requires.reached)

pub finish-requires : goal.finish-requires
finish-requires g c =
    let s = c.requires.buf_len in
    (reached_few c.requires.reached, omega (arith, s.0, c.fill.auto.buf), s.1, search rules, search rules)

pub returns-in-Bytes : goal.returns-in-Bytes
returns-in-Bytes g c =
    IfSome_then c.serve.result c.serve.ensures
    (λ r p. turned c.args.h c.args.buf.now c.fill.new.buf c.in-Bytes.n c.in-Bytes.ensures.filled p)
