-- `first_calls::open_refusal` meets its contract: the number of each case. Assumes nothing.
use Rattle.model.specs.Replies.{open_numbers}
use Rattle.first_calls.specs.Refusal.{open_refusal}
use Rattle.first_calls.proofs.open_refusal.Goals as goal

pub returns-in-Refused : goal.returns-in-Refused
unfolding open_refusal open_numbers
returns-in-Refused c = rw c.in-Refused.is

pub returns-in-Opened : goal.returns-in-Opened
unfolding open_refusal open_numbers
returns-in-Opened c = rw c.in-Opened.is
