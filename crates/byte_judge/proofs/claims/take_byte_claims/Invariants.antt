-- `byte_judge::claims::take_byte_claims` meets its contract: claim after claim what is still to be judged stays the same. Assumes nothing.
use Rattle.byte_judge.specs.Claims.{claims_in}
use Rattle.judging.proofs.Turns.{Turned}
use Rattle.byte_judge.proofs.claims.take_byte_claims.Given as goal

abbrev pub invariant-loop-i : goal.invariant-loop-i
invariant-loop-i l =
    Turned l.rows (claims_in l.claims) l.initial.slate l.slate l.i
