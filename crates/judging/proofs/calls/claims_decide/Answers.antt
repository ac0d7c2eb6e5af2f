-- `judging::calls::claims_decide` meets its contract: set up, then claim after claim. Assumes nothing.
use mathlib.Core.Path.{◌∙◌}
use Rattle.judging.proofs.Turns.{tests_told}
use Rattle.judging.proofs.calls.claims_decide.Goals as goal

pub take_claims-requires : goal.take_claims-requires
take_claims-requires c =
    record { standing = c.requires.ranked.stands; piled = c.set_up.ensures.piled; slate_len = c.set_up.auto.slate ∙ c.requires.slate_len }

pub returns : goal.returns
returns c =
    tests_told c.args.price c.args.rows.now c.args.claims.now c.requires.ranked c.set_up.ensures.slate_after c.take_claims.ensures
