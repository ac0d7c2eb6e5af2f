-- `records::days::day_in` meets its contract: the 44 numbers that were read, by name. Assumes nothing.
use Rattle.records.proofs.Held.{day_read}
use Rattle.records.proofs.days.day_in.Goals as goal

pub returns : goal.returns
returns c = day_read c.args.b.now _ c.read_numbers.ensures c.held_day.ensures
