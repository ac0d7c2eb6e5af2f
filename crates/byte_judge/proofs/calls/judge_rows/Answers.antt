-- `byte_judge::calls::judge_rows` meets its contract: decided by day and price, or by the claims. Assumes nothing.
use Rattle.judging.proofs.Deciding.{decided_ranked, unread, claims_yes, claims_no}
use Rattle.byte_judge.specs.Claims.{claims_in}
use Rattle.byte_judge.proofs.calls.judge_rows.Goals as goal

pub byte_claims_right-requires : goal.byte_claims_right-requires
byte_claims_right-requires c =
    let a = c.args in
    decided_ranked a.d a.price a.rows.now c.price_verdict.ensures c.in-Yes.is

pub returns-in-Yes : goal.returns-in-Yes
returns-in-Yes c =
    let a = c.args in
    claims_yes a.d a.price a.rows.now (claims_in a.claims.now) c.price_verdict.ensures c.in-Yes.is c.byte_claims_right.ensures c.if-byte_claims_right.true

pub returns-in-Yes-2 : goal.returns-in-Yes-2
returns-in-Yes-2 c =
    let a = c.args in
    claims_no a.d a.price a.rows.now (claims_in a.claims.now) c.price_verdict.ensures c.in-Yes.is c.byte_claims_right.ensures c.if-byte_claims_right.false

pub returns-in_default : goal.returns-in_default
returns-in_default c =
    let a = c.args in
    unread a.d a.price a.rows.now (claims_in a.claims.now) c.price_verdict.ensures c.in_default.not-Yes
