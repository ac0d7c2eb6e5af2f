-- `judging::claims::take_claims` meets its contract: claim after claim what is still to be judged stays the same. Assumes nothing.
use mathlib.Core.Path.{refl, ◌∙◌}
use native.Mathlib.Omega.{arith}
use Rattle.judging.proofs.Turns.{turned_none, turned_no, turned_more, turned_all, claim_next}
use Rattle.judging.proofs.claims.take_claims.Goals as goal

pub loop-c-init : goal.loop-c-init
loop-c-init c = turned_none c.args.rows.now c.args.claims.now c.args.slate.now

pub take_claim-requires : goal.take_claim-requires
take_claim-requires c =
    record { standing = c.requires.standing; piled = c.requires.piled; slate_len = c.loop-c.invariant.long ∙ c.requires.slate_len }

pub shape_of-slate-then-not-take_claim : goal.shape_of-slate-then-not-take_claim
shape_of-slate-then-not-take_claim c = c.take_claim.ensures.long ∙ c.loop-c.invariant.long

pub returns-then-not-take_claim : goal.returns-then-not-take_claim
returns-then-not-take_claim c =
    let a = c.args in
    turned_no a.rows.now a.claims.now a.slate.now _ _ c.loop-c.invariant c.take_claim.ensures
    (claim_next a.claims.now _ (omega arith) refl) c.if-not-take_claim.true-raw

pub loop-c-preserved : goal.loop-c-preserved
loop-c-preserved c =
    let a = c.args in
    turned_more a.rows.now a.claims.now a.slate.now _ _ c.loop-c.invariant c.take_claim.ensures
    (claim_next a.claims.now _ (omega arith) refl) c.if-not-take_claim.false-raw

pub shape_of-slate : goal.shape_of-slate
shape_of-slate c = c.loop-c.invariant.long

pub returns : goal.returns
returns c =
    turned_all c.args.rows.now c.args.claims.now c.args.slate.now _ _ c.loop-c.invariant
    (c.requires.slate_len)
    (omega arith) c.all_filled.ensures
