-- The chunk is answered to its end, or the program stops; then its tail is carried over. Assumes nothing.
use Rattle.std.proofs.Common.{arith, refl, length-take}
use Rattle.std.proofs.lemmas.Bool.{not-false}
use Rattle.text.proofs.Turns.{steps}
use Rattle.wishes.specs.Wishes.{floor}
use Rattle.floor.proofs.serving.serve.Goals as goal

pub carry_over-c-requires : goal.carry_over-c-requires
carry_over-c-requires g c =
    let o = c.answer_chunk-p.ensures.onward (not-false _ c.if-not-p.false) in
    let l = length-take c.args.n c.args.buf.now in
    (omega (arith, o.0.inside), c.requires.rows_len.4)

pub returns : goal.returns
returns g c =
    let a = c.answer_chunk-p.ensures in
    let o = a.onward (not-false _ c.if-not-p.false) in
    let v = c.carry_over-c in
    λ e. (steps floor c.args.buf.now v.new.buf c.args.n _ _ v.result refl o.0 o.1 v.ensures, a.noted_bound_2)
