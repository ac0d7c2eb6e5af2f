-- The blocks that can be judged fit what is lent; then the rest goes to the buffer's front. Assumes nothing.
use Rattle.std.proofs.Common.{arith, ap, sym, ◌∙◌, length-take-le}
use Rattle.std.specs.Option.{is_some}
use Rattle.unpack_file.proofs.Turns.{part_few, steps}
use Rattle.unpack_file.proofs.serving.serve.Goals as goal

pub unpack_part-done-requires : goal.unpack_part-done-requires
unpack_part-done-requires g c =
    let s = c.requires in
    let l = length-take-le c.args.n c.args.buf.now s.0 in
    (omega (arith, s, l), omega (arith, s, l))

pub show-requires : goal.show-requires
show-requires g c =
    let s = c.requires in
    let p = c.unpack_part-done in (
      omega (arith, p.ensures.room, p.auto.out),
      s.3,
      part_few c.args.buf.now c.args.n c.args.h.passed s.0 s.1 p.ensures.good,
    )

pub returns : goal.returns
returns g c =
    steps c.args.buf.now _ c.args.n _ c.args.h c.requires.0 c.followed-blocks.ensures c.to_front.ensures
    (ap is_some (sym c.unpack_part-done.ensures.refusal) ∙ sym c.if-is_some.ensures)
