-- What was kept fits the buffer, and what was read stands after it, so that the chunk is served. Assumes nothing.
use Rattle.std.proofs.Common.{arith}
use Rattle.streams.proofs.Filling.{read_on_lem}
use Rattle.text.proofs.Turns.{turned, reached_few, reached_fair}
use Rattle.wishes.specs.Wishes.{floor}
use Rattle.floor_chunks.proofs.SoundFloors.{SoundFloor, floor_sound}
use Rattle.floor.specs.Serving.{carry_in}
use Rattle.floor.proofs.Outset.{first_sound}
use Rattle.floor.proofs.serving.turn.Goals as goal

pub fill-input-requires : goal.fill-input-requires
fill-input-requires g c =
    omega (arith, c.requires.rows_len.4, reached_few floor SoundFloor floor_sound first_sound c.requires.noted_bound.1)

pub serve-requires-clause-rows_len : goal.serve-requires-clause-rows_len
serve-requires-clause-rows_len g c =
    let s = c.requires.rows_len in
    (s.0, s.1, s.2, s.3, c.in-Bytes.ensures.filled.1)

pub serve-requires-clause-noted_bound : goal.serve-requires-clause-noted_bound
serve-requires-clause-noted_bound g c =
    let s = c.requires.noted_bound in
    (s.0, reached_fair floor SoundFloor floor_sound first_sound s.1)

pub returns-in-Bytes : goal.returns-in-Bytes
returns-in-Bytes g c =
    let h = c.args.h in
    let buf = c.fill-input.new.buf in
    λ e. let k = c.serve.ensures e in (
      turned floor (carry_in h) c.args.buf.now _ buf c.in-Bytes.n _
          (read_on_lem h.kept _ c.args.buf.now buf c.in-Bytes.ensures.filled) k.0,
      k.1,
    )
