-- `file_lists::found_numbers` meets its contract: each case is one clause of the definition. Assumes nothing.
use Rattle.file_lists.specs.Lists.{found_numbers}
use Rattle.file_lists.proofs.found_numbers.Goals as goal

pub returns-in-Ok : goal.returns-in-Ok
unfolding found_numbers
returns-in-Ok c = rw c.in-Ok.is

pub returns-in-Err : goal.returns-in-Err
unfolding found_numbers
returns-in-Err c = rw c.in-Err.is
