-- What ./floor's memory holds between a read and a write, by what goes from chunk to chunk.
use Rattle.std.specs.Prelude.{ℕ, List}
use Rattle.text.specs.declared.Carry.{Carry}
use Rattle.text.specs.Turns as Turns
use Rattle.floors.specs.Floor.{Floor, no_floor}
use Rattle.wishes.specs.Wishes.{floor}
use Rattle.floor_desk.specs.Floors.{floor_of}
use Rattle.floor.specs.declared.AfterChunk.{AfterChunk}
use Rattle.model.specs.declared.Order.{Order}
use Rattle.judge.specs.declared.Claim.{Claim}

abbrev pub carry_in : AfterChunk → Carry
carry_in h = record { kept = h.kept; long = h.long }

-- the day and its book, and the claims that are noted
abbrev pub floor_in : AfterChunk → List Order → List Claim → Floor
floor_in h rows claims = floor_of h.desk rows claims h.noted

-- it holds what some chunks have made of the outset, where no day is open
abbrev pub Reached : List Order → List Claim → List ℕ → AfterChunk → Type 0
Reached rows claims buf h = Turns.Reached floor no_floor (carry_in h) buf (floor_in h rows claims)

-- one turn: whatever the memory held, it holds what one chunk more makes of it
abbrev pub Turned : List Order → List Claim → List ℕ → AfterChunk → List Order → List Claim → List ℕ → AfterChunk → Type 0
Turned rows claims buf h rows' claims' buf' r =
    Turns.Turned floor (carry_in h) buf (floor_in h rows claims) (carry_in r) buf' (floor_in r rows' claims')

-- the floor after the lines that end in the chunk, the carry, and the bytes that it keeps at the buffer's front
abbrev pub Steps : List ℕ → AfterChunk → List Order → List Claim → List Order → List Claim → List ℕ → AfterChunk → Type 0
Steps chunk h rows claims rows' claims' buf r =
    Turns.Steps floor chunk h.long (floor_in h rows claims) (carry_in r) buf (floor_in r rows' claims')
