-- `judging::calls::judge_call` meets its contract: decided by day and price, or by the claims. Assumes nothing.
use Rattle.judging.proofs.Deciding.{decided_ranked, unread, claims_yes, claims_no}
use Rattle.judging.proofs.calls.judge_call.Goals as goal

pub claims_right-requires : goal.claims_right-requires
claims_right-requires c =
    let a = c.args in
    decided_ranked a.d a.price a.rows.now c.price_verdict.ensures c.in-Yes.is

pub returns-in-Yes : goal.returns-in-Yes
returns-in-Yes c =
    let a = c.args in
    claims_yes a.d a.price a.rows.now a.claims.now c.price_verdict.ensures c.in-Yes.is c.claims_right.ensures c.if-claims_right.true

pub returns-in-Yes-2 : goal.returns-in-Yes-2
returns-in-Yes-2 c =
    let a = c.args in
    claims_no a.d a.price a.rows.now a.claims.now c.price_verdict.ensures c.in-Yes.is c.claims_right.ensures c.if-claims_right.false

pub returns-in_default : goal.returns-in_default
returns-in_default c =
    let a = c.args in
    unread a.d a.price a.rows.now a.claims.now c.price_verdict.ensures c.in_default.not-Yes
