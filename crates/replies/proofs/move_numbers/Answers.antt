-- Each case is one clause of the definition: the phase, how many trades of each kind, and the void and the lapsed shares.
use Rattle.model.specs.Replies.{move_numbers}
use Rattle.replies.proofs.move_numbers.Goals as goal

pub returns-in-Refused : goal.returns-in-Refused
unfolding move_numbers
returns-in-Refused c = rw c.in-Refused.is

pub returns-in-Moved : goal.returns-in-Moved
unfolding move_numbers
returns-in-Moved c = rw c.in-Moved.is
