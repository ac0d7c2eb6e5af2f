-- Each case is one clause of the definition.
use Rattle.model.specs.Replies.{resting_of}
use Rattle.replies.proofs.resting.Goals as goal

pub returns-in-Nothing : goal.returns-in-Nothing
unfolding resting_of
returns-in-Nothing c = rw c.in-Nothing.is

pub returns-in-Rests : goal.returns-in-Rests
unfolding resting_of
returns-in-Rests c = rw c.in-Rests.is

pub returns-in-Withdrawn : goal.returns-in-Withdrawn
unfolding resting_of
returns-in-Withdrawn c = rw c.in-Withdrawn.is
