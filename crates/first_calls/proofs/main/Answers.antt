-- What the opening promises of its reply, evaluated, is the refusal 14, so that the test cannot fail. Assumes nothing.
use Rattle.std.proofs.Common.{ap, ◌∙◌}
use Rattle.model.specs.Limits.{is_price}
use Rattle.model.specs.Refusals.{◌when◌, first_of}
use Rattle.model.specs.Replies.{open_numbers}
use Rattle.model.specs.Calls.{OpenOutcome, open_rules, open_call}
use Rattle.first_calls.specs.Refusal.{open_refusal}
use Rattle.first_calls.proofs.main.Goals as goal

pub prove-unreachable-requires : goal.prove-unreachable-requires
unfolding open_refusal open_numbers open_call open_rules is_price first_of ◌when◌
prove-unreachable-requires c =
    c.if-prove.true
    (c.open_refusal-refused.ensures ∙ ap (λ (o : OpenOutcome). open_refusal o.reply) c.open_call-opened.ensures)
