-- The rescue of a damaged day file: a new file from the events before the first refused block, and a list of each block from
-- there on.
use Rattle.std.specs.Prelude.{ℕ, zero, suc, ◌-◌, ◌*◌, Bool, false, ◌&&◌, List, [], ◌∷◌, length, take, drop, ltb, if◌then◌else◌}
use Rattle.model.specs.declared.Event.{Event}
use Rattle.file_blocks.specs.Blocks.{number_in, right_check, own_layout}
use Rattle.day_files.specs.Files.{file_bytes, whole_blocks, events_of}
use Rattle.fronts.specs.Good.{good_blocks}

-- a block's place, whether its own check and layout are sound, its number
pub record Listed : Type 0 where
  pub place : ℕ
  pub sound : Bool
  pub number : ℕ

-- so many blocks from a place on; a tail has number 0
unfoldable pub list_from : ℕ → ℕ → List ℕ → List Listed
list_from zero place rest =
    if ltb 0 (length rest) then record { place = place; sound = false; number = 0 } ∷ [] else []
list_from (suc blocks) place rest =
    record {
      place = place;
      sound = right_check (take 512 rest) && own_layout (take 512 rest);
      number = number_in (take 512 rest);
    }
    ∷ list_from blocks (suc place) (drop 512 rest)

-- the new file, how many records it kept, and the list
pub record Rescued : Type 0 where
  pub file : List ℕ
  pub kept : ℕ
  pub list : List Listed

unfoldable pub rescued : List ℕ → Rescued
rescued file =
    let good : ℕ = good_blocks file in
    let es : List Event = events_of good file in
    record {
      file = file_bytes es;
      kept = length es;
      list = list_from (whole_blocks file - good) (suc good) (drop (512 * good) file);
    }
