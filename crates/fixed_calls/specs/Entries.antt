-- The reply to an accepted fixed-price order, from how many trades it had and how many shares they were: all are at the close, so they
-- have one price if there are any.
use Rattle.std.specs.Prelude.{ℕ, ◌-◌, eqb, if◌then◌else◌}
use Rattle.model.specs.declared.AskedFixed.{AskedFixed}
use Rattle.model.specs.declared.Day.{Day}
use Rattle.model.specs.declared.Entry.{Entry}
use Rattle.model.specs.Figures.{next_fixed}
use Rattle.model.specs.Calls.{ended}

unfoldable pub entry_of : Day → AskedFixed → ℕ → ℕ → Entry
entry_of d a made shares =
    record {
      number = next_fixed d;
      filled = shares;
      levels = if eqb made 0 then 0 else 1;
      remainder = ended (a.quantity - shares) a.price;
    }
