-- One claim more, or no room. Assumes nothing.
use mathlib.Core.Path.{refl}
use Rattle.floor_desk.proofs.Questions.{claim_noted, claim_refused}
use Rattle.floor_desk.proofs.asking.answer_claim.Goals as goal

pub returns-then-noted-claims : goal.returns-then-noted-claims
returns-then-noted-claims c =
    λ k. claim_noted c.args.claims.now c.args.noted c.args.c c.requires.0 c.requires.2 k _ _ c.if-noted-claims.true refl c.put_noted-next.ensures

pub returns : goal.returns
returns c =
    λ k. claim_refused c.args.claims.now c.args.noted c.args.c c.requires.0 c.requires.2 k _ c.if-noted-claims.false c.requires.1 c.put_refusal-next.ensures
