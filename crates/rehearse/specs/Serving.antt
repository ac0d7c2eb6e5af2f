-- What the program's memory holds between a read and a write, by what goes from chunk to chunk of ./run.
use Rattle.std.specs.Prelude.{ℕ, Bool, List}
use Rattle.std.proofs.Math.Option.{Option, none}
use Rattle.model.specs.Session.{Desk}
use Rattle.text.specs.declared.Carry.{Carry}
use Rattle.text.specs.Answers.{rehearsal}
use Rattle.text.specs.Turns as Turns
use Rattle.desk.specs.Desks.{desk_of}
use Rattle.rehearse.specs.declared.AfterChunk.{AfterChunk}
use Rattle.model.specs.declared.Order.{Order}

abbrev pub carry_in : AfterChunk → Carry
carry_in h = record { kept = h.kept; long = h.long }

-- it holds what some chunks have made of the outset, where no day is open
abbrev pub Reached : List Order → List ℕ → AfterChunk → Type 0
Reached rows buf h = Turns.Reached rehearsal none (carry_in h) buf (desk_of h.desk rows)

-- one turn: whatever the memory held, it holds what one chunk more makes of it
abbrev pub Turned : List Order → List ℕ → AfterChunk → List Order → List ℕ → AfterChunk → Type 0
Turned rows buf h rows' buf' r =
    Turns.Turned rehearsal (carry_in h) buf (desk_of h.desk rows) (carry_in r) buf' (desk_of r.desk rows')

-- the desk after the lines that end in the chunk, the carry, and the bytes that it keeps at the buffer's front
abbrev pub Steps : List ℕ → Bool → Option Desk → List Order → List ℕ → AfterChunk → Type 0
Steps chunk long old rows buf r = Turns.Steps rehearsal chunk long old (carry_in r) buf (desk_of r.desk rows)
