-- Each case is one clause of the definition: the number, and how many confirmations.
use Rattle.model.specs.Replies.{block_numbers}
use Rattle.replies.proofs.block_numbers.Goals as goal

pub returns-in-Refused : goal.returns-in-Refused
unfolding block_numbers
returns-in-Refused c = rw c.in-Refused.is

pub returns-in-Held : goal.returns-in-Held
unfolding block_numbers
returns-in-Held c = rw c.in-Held.is

pub returns-in-Confirmed : goal.returns-in-Confirmed
unfolding block_numbers
returns-in-Confirmed c = rw c.in-Confirmed.is
