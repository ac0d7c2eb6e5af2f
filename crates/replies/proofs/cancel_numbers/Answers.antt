-- Each case is one clause of the definition: the shares withdrawn.
use Rattle.model.specs.Replies.{cancel_numbers}
use Rattle.replies.proofs.cancel_numbers.Goals as goal

pub returns-in-Refused : goal.returns-in-Refused
unfolding cancel_numbers
returns-in-Refused c = rw c.in-Refused.is

pub returns-in-Withdrawn : goal.returns-in-Withdrawn
unfolding cancel_numbers
returns-in-Withdrawn c = rw c.in-Withdrawn.is
