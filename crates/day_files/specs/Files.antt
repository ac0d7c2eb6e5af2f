-- A day file: its blocks one after the other, written from events and read back.
use Rattle.std.specs.Prelude.{Result, Ok, Err, ℕ, zero, suc, ◌+◌, ◌/◌, List, [], ◌∷◌, ◌++◌, length, take, drop, ltb, eqb, if◌then◌else◌}
use Rattle.model.specs.Lists.{any}
use Rattle.model.specs.Refusals.{Rule, ◌when◌, first_of}
use Rattle.model.specs.declared.Event.{Event}
use Rattle.file_records.specs.Records.{is_wide}
use Rattle.file_blocks.specs.Blocks.{block_bytes, events_in, block_rules}

-- ---- written

-- so many blocks of 25 events, the last with what is left
unfoldable pub blocks_from : ℕ → ℕ → List Event → List ℕ
blocks_from zero number es = []
blocks_from (suc blocks) number es = block_bytes number (take 25 es) ++ blocks_from blocks (suc number) (drop 25 es)

unfoldable pub file_bytes : List Event → List ℕ
file_bytes es = blocks_from ((length es + 24) / 25) 1 es

-- 27: a side or order kind above 255
unfoldable pub write_rules : List Event → List Rule
write_rules es = 27 when (any is_wide es) ∷ []

pub data Written : Type 0 where
  Refused : ℕ → Written
  File : List ℕ → Written

unfoldable pub write_file : List Event → Written
write_file es =
    let n : ℕ = first_of (write_rules es) in if eqb n 0 then File (file_bytes es) else Refused n

-- ---- read

-- how many whole blocks there are
unfoldable pub whole_blocks : List ℕ → ℕ
whole_blocks file = length file / 512

-- block after block, each with its tests in order; a tail short of 512 bytes is 26
unfoldable pub rules_from : ℕ → ℕ → ℕ → List ℕ → List Rule
rules_from whole zero place rest = 26 when (ltb 0 (length rest)) ∷ []
rules_from whole (suc blocks) place rest =
    block_rules whole place (take 512 rest) ++ rules_from whole blocks (suc place) (drop 512 rest)

unfoldable pub read_rules : List ℕ → List Rule
read_rules file = rules_from (whole_blocks file) (whole_blocks file) 1 file

-- the events of so many blocks
unfoldable pub events_of : ℕ → List ℕ → List Event
events_of zero rest = []
events_of (suc blocks) rest = events_in (take 512 rest) ++ events_of blocks (drop 512 rest)

pub data Reading : Type 0 where
  Refused : ℕ → Reading
  Read : List Event → Reading

unfoldable pub read_file : List ℕ → Reading
read_file file =
    let n : ℕ = first_of (read_rules file) in
    if eqb n 0 then Read (events_of (whole_blocks file) file) else Refused n

-- ---- what reading a whole file answers

-- a file: how many records it has, or its first refusal
unfoldable pub counted : Reading → Result ℕ ℕ
counted (Reading.Refused n) = Err n
counted (Reading.Read es) = Ok (length es)

unfoldable pub count_file : List ℕ → Result ℕ ℕ
count_file file = counted (read_file file)
