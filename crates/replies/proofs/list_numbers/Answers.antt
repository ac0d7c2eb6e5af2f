-- Each case is one clause of the definition: how many prices and the next one due.
use Rattle.model.specs.Replies.{list_numbers}
use Rattle.replies.proofs.list_numbers.Goals as goal

pub returns-in-Refused : goal.returns-in-Refused
unfolding list_numbers
returns-in-Refused c = rw c.in-Refused.is

pub returns-in-Listed : goal.returns-in-Listed
unfolding list_numbers
returns-in-Listed c = rw c.in-Listed.is
