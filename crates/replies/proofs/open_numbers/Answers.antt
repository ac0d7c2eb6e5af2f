-- Each case is one clause of the definition: the refusal, or 0.
use Rattle.model.specs.Replies.{open_numbers}
use Rattle.replies.proofs.open_numbers.Goals as goal

pub returns-in-Refused : goal.returns-in-Refused
unfolding open_numbers
returns-in-Refused c = rw c.in-Refused.is

pub returns-in-Opened : goal.returns-in-Opened
unfolding open_numbers
returns-in-Opened c = rw c.in-Opened.is
