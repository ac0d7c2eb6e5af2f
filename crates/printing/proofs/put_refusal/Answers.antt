-- The line with one number.
use Rattle.model.specs.Lines.{refusal_line}
use Rattle.printing.proofs.put_refusal.Goals as goal

pub returns : goal.returns
unfolding refusal_line
returns c = c.put_reply.ensures
