-- What is promised of a rescue, as statements: each can be read without its proof.
use Rattle.std.specs.Prelude.{ℕ, suc, ◌+◌, ◌-◌, ◌*◌, ◌%◌, ◌≡◌, ◌↔◌, List, [], map, length, take, ltb, if◌then◌else◌}
use Rattle.model.specs.Lists.{from}
use Rattle.model.specs.declared.Event.{Event}
use Rattle.day_files.specs.Files.{Reading, whole_blocks, events_of, read_file}
use Rattle.octets.specs.Numbers.{AllBytes}
use Rattle.fronts.specs.Good.{good_blocks}
use Rattle.rescue.specs.Rescue.{rescued}

pub record Rescuing : Type 0 where
  -- an undamaged or empty file comes out the same byte for byte
  pub undamaged :
      (file : List ℕ) (es : List Event)
      → AllBytes file
      → read_file file ≡ Reading.Read es
      → rescued file ≡ record { file = file; kept = length es; list = [] }
  pub empty : rescued [] ≡ record { file = []; kept = 0; list = [] }
  -- any other comes out as its blocks before the first refused one, byte for byte
  pub front : (file : List ℕ) → AllBytes file → (rescued file).file ≡ take (512 * good_blocks file) file
  -- the new file can be read, and has the events of these blocks
  pub reads :
      (file : List ℕ) → AllBytes file → read_file (rescued file).file ≡ Reading.Read (events_of (good_blocks file) file)
  -- the list is empty exactly when the file is undamaged
  pub all_kept : (file : List ℕ) → ((rescued file).list ≡ []) ↔ (read_file file ≡ Reading.Read (events_of (whole_blocks file) file))
  -- it names every block from the first refused one on, once, in order, and then a tail
  pub named : (file : List ℕ) → map (λ l. l.place) (rescued file).list ≡ from (suc (good_blocks file)) (length (rescued file).list)
  pub all_named :
      (file : List ℕ)
      → length (rescued file).list ≡ whole_blocks file - good_blocks file + (if ltb 0 (length file % 512) then 1 else 0)
