-- How far a chunk is answered, as ./floor holds it.
use Rattle.std.specs.Prelude.{ℕ, false, List}
use Rattle.text.specs.Points.{Point}
use Rattle.floors.specs.Floor.{Floor}
use Rattle.floor_desk.specs.declared.FloorAnswered.{FloorAnswered}
use Rattle.floor_desk.specs.Floors.{floor_of}
use Rattle.floor_chunks.specs.declared.FloorProgress.{FloorProgress}
use Rattle.model.specs.declared.Order.{Order}
use Rattle.judge.specs.declared.Claim.{Claim}

abbrev pub point_of : FloorProgress → List Order → List Claim → Point Floor
point_of p rows claims = record { state = floor_of p.desk rows claims p.noted; at = p.at; long = p.long }

-- past a line that is answered
abbrev pub past_line : FloorAnswered → ℕ → FloorProgress
past_line a place =
    record { desk = a.desk; noted = a.noted; at = place; long = false; next = a.next; done = false }
