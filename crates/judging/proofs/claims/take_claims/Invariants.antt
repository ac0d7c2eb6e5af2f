-- `judging::claims::take_claims` meets its contract: claim after claim what is still to be judged stays the same. Assumes nothing.
use Rattle.judging.proofs.Turns.{Turned}
use Rattle.judging.proofs.claims.take_claims.Given as goal

abbrev pub invariant-loop-c : goal.invariant-loop-c
invariant-loop-c l =
    Turned l.rows l.claims l.initial.slate l.slate l.c-index
