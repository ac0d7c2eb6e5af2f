-- The next number is its own.
use Rattle.fixed_calls.proofs.Entries.{incoming_is}
use Rattle.fixed_calls.proofs.entering.incoming_order.Goals as goal

pub returns : goal.returns
returns c = let a = c.args in incoming_is a.d a.a
