-- How far a chunk is answered, as the program holds it.
use Rattle.std.specs.Prelude.{ℕ, false, List}
use Rattle.std.proofs.Math.Option.{Option}
use Rattle.model.specs.Session.{Desk}
use Rattle.text.specs.Points.{Point}
use Rattle.desk.specs.declared.Answered.{Answered}
use Rattle.desk.specs.Desks.{desk_of}
use Rattle.chunks.specs.declared.Progress.{Progress}
use Rattle.model.specs.declared.Order.{Order}

abbrev pub point_of : Progress → List Order → Point (Option Desk)
point_of p rows = record { state = desk_of p.desk rows; at = p.at; long = p.long }

-- past a line that is answered
abbrev pub past_line : Answered → ℕ → Progress
past_line a place = record { desk = a.desk; at = place; long = false; next = a.next; done = false }
