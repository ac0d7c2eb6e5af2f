-- What was kept fits the buffer, and what was read stands after it, so that the chunk is packed. Assumes nothing.
use Rattle.std.proofs.Common.{arith}
use Rattle.std.proofs.lemmas.Option.{IfSome_then}
use Rattle.pack_script.proofs.Turns.{turned, reached_few, reached_waits}
use Rattle.pack_script.proofs.serving.turn.Goals as goal

pub fill-requires : goal.fill-requires
fill-requires g c = omega (arith, c.requires.buf_len.0, reached_few c.requires.reached)

pub finish-requires-clause-waits : goal.finish-requires-clause-waits
finish-requires-clause-waits g c = reached_waits c.requires.reached

pub returns-in-Bytes : goal.returns-in-Bytes
returns-in-Bytes g c =
    IfSome_then c.serve.result c.serve.ensures
    (λ r p. turned c.args.h c.args.buf.now c.fill.new.buf _ c.in-Bytes.n c.in-Bytes.ensures.filled p)
