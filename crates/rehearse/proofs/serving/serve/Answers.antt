-- The chunk is answered to its end, or the program stops; then its tail is carried over. Assumes nothing.
use Rattle.std.proofs.Common.{arith, refl, length-take}
use Rattle.std.proofs.lemmas.Bool.{not-false}
use Rattle.text.specs.Answers.{rehearsal}
use Rattle.text.proofs.Turns.{steps}
use Rattle.rehearse.proofs.serving.serve.Goals as goal

pub carry_over-c-requires : goal.carry_over-c-requires
carry_over-c-requires g c =
    let o = c.answer_chunk-p.ensures (not-false _ c.if-not-p.false) in
    let l = length-take c.args.n c.args.buf.now in
    (omega (arith, o.0.inside), c.requires.3)

pub returns : goal.returns
returns g c =
    let o = c.answer_chunk-p.ensures (not-false _ c.if-not-p.false) in
    λ e. steps rehearsal c.args.buf.now c.carry_over-c.new.buf c.args.n _ _ c.carry_over-c.result refl o.0 o.1 c.carry_over-c.ensures
