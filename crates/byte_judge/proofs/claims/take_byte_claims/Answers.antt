-- `byte_judge::claims::take_byte_claims` meets its contract: claim after claim what is still to be judged stays the same. Assumes nothing.
use mathlib.Core.Path.{◌∙◌}
use native.Mathlib.Omega.{arith}
use Rattle.byte_judge.specs.Claims.{claims_in}
use Rattle.judging.proofs.Turns.{turned_none, turned_no, turned_more, turned_all}
use Rattle.byte_judge.proofs.Reading.{claims_length, byte_claim_next}
use Rattle.byte_judge.proofs.claims.take_byte_claims.Goals as goal

pub loop-i-init : goal.loop-i-init
loop-i-init c = turned_none c.args.rows.now (claims_in c.args.claims.now) c.args.slate.now

pub take_claim-requires : goal.take_claim-requires
take_claim-requires c =
    record { standing = c.requires.standing; piled = c.requires.piled; slate_len = c.loop-i.invariant.long ∙ c.requires.slate_len }

pub shape_of-slate-then-not-take_claim : goal.shape_of-slate-then-not-take_claim
shape_of-slate-then-not-take_claim c = c.take_claim.ensures.long ∙ c.loop-i.invariant.long

pub returns-then-not-take_claim : goal.returns-then-not-take_claim
returns-then-not-take_claim c =
    let a = c.args in
    turned_no a.rows.now (claims_in a.claims.now) a.slate.now _ _ c.loop-i.invariant c.take_claim.ensures
    (byte_claim_next a.claims.now _ c.loop-i-test.true c.read_claim-c.ensures) c.if-not-take_claim.true-raw

pub loop-i-preserved : goal.loop-i-preserved
loop-i-preserved c =
    let a = c.args in
    turned_more a.rows.now (claims_in a.claims.now) a.slate.now _ _ c.loop-i.invariant c.take_claim.ensures
    (byte_claim_next a.claims.now _ c.loop-i-test.true c.read_claim-c.ensures) c.if-not-take_claim.false-raw

pub shape_of-slate : goal.shape_of-slate
shape_of-slate c = c.loop-i.invariant.long

pub returns : goal.returns
returns c =
    turned_all c.args.rows.now (claims_in c.args.claims.now) c.args.slate.now _ _ c.loop-i.invariant
    (c.requires.slate_len)
    (omega (arith, claims_length c.args.claims.now, c.loop-i-test.false)) c.all_filled.ensures
