-- What was kept fits the buffer, and what was read stands after it, so that the chunk is served. Assumes nothing.
use Rattle.std.proofs.Common.{arith}
use Rattle.streams.proofs.Filling.{read_on_lem}
use Rattle.text.specs.Answers.{rehearsal}
use Rattle.text.proofs.Turns.{turned, reached_few, reached_fair}
use Rattle.chunks.specs.SoundDesk.{SoundDesk}
use Rattle.chunks.proofs.SoundDesks.{stays_sound}
use Rattle.rehearse.specs.Serving.{carry_in}
use Rattle.rehearse.proofs.serving.turn.Goals as goal

pub fill-input-requires : goal.fill-input-requires
fill-input-requires g c =
    omega (arith, c.requires.rows_len.3, reached_few rehearsal SoundDesk stays_sound tt c.requires.reached)

pub serve-requires : goal.serve-requires
serve-requires g c =
    let s = c.requires.rows_len in
    (s.0, s.1, s.2, c.in-Bytes.ensures.filled.1, reached_fair rehearsal SoundDesk stays_sound tt c.requires.reached)

pub returns-in-Bytes : goal.returns-in-Bytes
returns-in-Bytes g c =
    let h = c.args.h in
    let buf = c.fill-input.new.buf in
    λ e. turned rehearsal (carry_in h) c.args.buf.now _ buf c.in-Bytes.n _
    (read_on_lem h.kept _ c.args.buf.now buf c.in-Bytes.ensures.filled) (c.serve.ensures e)
