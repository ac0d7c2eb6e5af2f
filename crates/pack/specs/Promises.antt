-- What the packer promises of an event, a line and a chunk.
use Rattle.std.specs.Prelude.{ℕ, ◌+◌, ◌-◌, ◌*◌, ◌/◌, ◌≤◌, ◌≡◌, Bool, false, List, ◌++◌, length, drop}
use Rattle.model.specs.declared.Event.{Event}
use Rattle.model.specs.declared.Command.{Command}
use Rattle.model.specs.Lines.{lines_of}
use Rattle.printing.specs.Printing.{Wrote}
use Rattle.text.specs.Readers.{asks_of, commands}
use Rattle.text.specs.Chunks.{tail_of, tail_long}
use Rattle.file_blocks.specs.Blocks.{filling}
use Rattle.file_scripts.specs.Scripts.{stored_of, told, told_from}
use Rattle.pack.specs.declared.Packing.{Packing}
use Rattle.pack.specs.Packing.{waiting, new_blocks}

-- the memory between events: how many are stored, and those that wait in their block
pub record Holds (es : List Event) (records : ℕ) (block : List ℕ) : Type 0 where
  pub count : records ≡ length es
  pub bytes : block ≡ filling (waiting es)

-- some more events stored: the block holds those that wait then, and the blocks that are full are put at a place
pub record Stores (more : List Event) (records : ℕ) (block out : List ℕ) (at : ℕ) (block' out' : List ℕ) (next : ℕ) : Type 0 where
  pub filed : next ≡ at + 512 * ((records + length more) / 25 - records / 25)
  pub holds : (es : List Event) → Holds es records block → Holds (es ++ more) (records + length more) block'
  pub text : (es : List Event) → Holds es records block → Wrote out at (new_blocks es more) out' next

-- before a chunk, and past a line
abbrev pub start_of : ℕ → ℕ → Bool → Packing
start_of records line long = record { records = records; line = line; at = 0; long = long; filed = 0; told = 0 }

abbrev pub left_out : Packing → ℕ → ℕ → Packing
left_out p place told =
    record { records = p.records; line = p.line + 1; at = place; long = false; filed = p.filed; told = told }

abbrev pub stored_then : Packing → ℕ → ℕ → Packing
stored_then p place filed =
    record { records = p.records + 1; line = p.line + 1; at = place; long = false; filed = filed; told = p.told }

-- what some commands have made of the memory, from a point of the chunk to another
pub record Packs (cs : List Command) (p : Packing) (block out said : List ℕ) (r : Packing) (block' out' said' : List ℕ) : Type 0 where
  pub records : r.records ≡ p.records + length (stored_of cs)
  pub line : r.line ≡ p.line + length cs
  pub stores : Stores (stored_of cs) p.records block out p.filed block' out' r.filed
  pub told : Wrote said p.told (told_from p.line cs) said' r.told

-- all lines that end in the chunk are packed, and the place of its tail is reached
pub record PacksChunk (chunk : List ℕ) (p : Packing) (block out said : List ℕ) (r : Packing) (block' out' said' : List ℕ) : Type 0 where
  pub packs : Packs (asks_of commands p.long (lines_of chunk)) p block out said r block' out' said'
  pub few : length (asks_of commands p.long (lines_of chunk)) ≤ length chunk
  pub inside : r.at ≤ length chunk
  pub tail : tail_of (lines_of chunk) ≡ drop r.at chunk
  pub still : tail_long p.long (lines_of chunk) ≡ r.long
