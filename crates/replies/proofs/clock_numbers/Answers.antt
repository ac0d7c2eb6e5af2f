-- Each case is one clause of the definition: the phase and how many trades.
use Rattle.model.specs.Replies.{clock_numbers}
use Rattle.replies.proofs.clock_numbers.Goals as goal

pub returns-in-Refused : goal.returns-in-Refused
unfolding clock_numbers
returns-in-Refused c = rw c.in-Refused.is

pub returns-in-Moved : goal.returns-in-Moved
unfolding clock_numbers
returns-in-Moved c = rw c.in-Moved.is
