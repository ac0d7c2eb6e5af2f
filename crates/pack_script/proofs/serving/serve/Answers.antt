-- What a chunk asks for fits what is lent; then the chunk's tail is carried over. Assumes nothing.
use Rattle.std.proofs.Common.{arith, sym, length-take, length-take-le}
use Rattle.pack.proofs.LineByLine.{chunk_within}
use Rattle.pack_script.proofs.Turns.{steps}
use Rattle.pack_script.proofs.serving.serve.Goals as goal

pub pack_lines-p-requires : goal.pack_lines-p-requires
pack_lines-p-requires g c =
    let s = c.requires in
    let l = length-take-le c.args.n c.args.buf.now s.0 in
    (s.2, omega (arith, s, l), omega (arith, s, l), omega (arith, s, l), omega (arith, s, l))

pub slice_bounds-written-end : goal.slice_bounds-written-end
slice_bounds-written-end g c =
    let s = c.requires in
    let l = length-take-le c.args.n c.args.buf.now s.0 in
    let p = c.pack_lines-p in
    let w = chunk_within _ _ _ _ _ _ _ p.ensures (omega (arith, s, l)) (omega (arith, s, l)) in
    omega (arith, w.0, p.auto.out)

pub slice_bounds-written-end-2 : goal.slice_bounds-written-end-2
slice_bounds-written-end-2 g c = sym (length-take-le _ _ (slice_bounds-written-end g c))

pub slice_bounds-written-end-3 : goal.slice_bounds-written-end-3
slice_bounds-written-end-3 g c =
    let s = c.requires in
    let l = length-take-le c.args.n c.args.buf.now s.0 in
    let p = c.pack_lines-p in
    let w = chunk_within _ _ _ _ _ _ _ p.ensures (omega (arith, s, l)) (omega (arith, s, l)) in
    omega (arith, w.1, p.auto.said)

pub slice_bounds-written-end-4 : goal.slice_bounds-written-end-4
slice_bounds-written-end-4 g c = sym (length-take-le _ _ (slice_bounds-written-end-3 g c))

pub carry_over-requires : goal.carry_over-requires
carry_over-requires g c =
    let l = length-take c.args.n c.args.buf.now in
    (omega (arith, c.pack_lines-p.ensures.inside), c.requires.0)

pub returns : goal.returns
returns g c =
    let v = c.carry_over in
    steps c.args.buf.now v.new.buf c.args.n c.args.h c.pack_lines-p.result v.result c.pack_lines-p.ensures v.ensures
