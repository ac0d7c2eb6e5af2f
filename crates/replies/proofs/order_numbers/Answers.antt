-- Each case is one clause of the definition: number, filled, resting, withdrawn, levels.
use Rattle.model.specs.Replies.{entry_numbers, order_numbers}
use Rattle.replies.proofs.order_numbers.Goals as goal

pub returns-in-Refused : goal.returns-in-Refused
unfolding order_numbers entry_numbers
returns-in-Refused c = rw c.in-Refused.is

pub returns-in-Accepted : goal.returns-in-Accepted
unfolding order_numbers entry_numbers
returns-in-Accepted c = rw (c.in-Accepted.is, c.resting.ensures, c.withdrawn.ensures)
