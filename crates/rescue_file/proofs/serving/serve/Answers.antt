-- Either way the definitions' step is made: what is listed already, kept, or kept and then listed. Assumes nothing.
use Rattle.std.proofs.Common.{arith, ◌∙◌}
use Rattle.std.proofs.lemmas.Bool.{not-true, not-false}
use Rattle.rescue_file.proofs.Turns.{steps_listing, steps_kept, steps_listed, keeps_few, followed_is}
use Rattle.rescue_file.proofs.serving.serve.Goals as goal

pub returns-then-h : goal.returns-then-h
returns-then-h g c = steps_listing _ c.args.h c.if-h.true c.list.ensures

pub returns-then-not-r : goal.returns-then-not-r
returns-then-not-r g c =
    steps_kept _ c.args.h _ _ _ c.if-h.false
    (c.followed.ensures ∙ followed_is c.args.n c.args.buf.now c.requires.0) c.in_ok-r.ensures (not-true _ c.if-not-r.true)

pub list-requires-2 : goal.list-requires-2
list-requires-2 g c =
    let s = c.requires in
    let b = keeps_few _ _ c.args.n c.args.buf.now c.args.h c.in_ok-r.ensures s.0 in
    (omega (arith, b.0, s.0, c.keep.auto.buf), omega (arith, s.1, c.keep.auto.buf), s.2, omega (arith, b.1, s))

pub returns : goal.returns
returns g c =
    steps_listed _ c.args.h _ _ _ c.if-h.false
    (c.followed.ensures ∙ followed_is c.args.n c.args.buf.now c.requires.0) c.in_ok-r.ensures
    (not-false _ c.if-not-r.false) c.list-2.ensures
