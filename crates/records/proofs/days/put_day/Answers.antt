-- `records::days::put_day` meets its contract: its figures, its screen, and what stands behind it. Assumes nothing.
use Rattle.records.proofs.Stored.{day_put}
use Rattle.records.proofs.days.put_day.Goals as goal

pub returns : goal.returns
returns c =
    day_put c.args.b.now c.args.d c.requires c.put_numbers.ensures c.put_screen.ensures c.put_numbers-2.ensures
