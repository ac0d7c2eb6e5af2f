-- The records of a day file as one list of bytes, 20 for each, and what reading a file leaves in such a list.
use Rattle.std.specs.Prelude.{Result, Ok, Err, ℕ, ◌+◌, ◌*◌, ◌/◌, ◌%◌, min, List, [], ◌∷◌, length, take, drop}
use Rattle.model.specs.declared.Event.{Event}
use Rattle.octets.specs.Numbers.{flat}
use Rattle.records.specs.Layout.{over}
use Rattle.file_records.specs.Records.{record_bytes}
use Rattle.day_files.specs.Files.{Reading}

-- ---- the list

-- the records of events in their order at the list's front, as many whole ones as fit; the rest of the list stays
unfoldable pub listed : List Event → List ℕ → List ℕ
listed es list = over (flat record_bytes (take (length list / 20) es)) list

-- a refused file leaves the list as it was
unfoldable pub listed_from : Reading → List ℕ → List ℕ
listed_from (Reading.Refused n) list = list
listed_from (Reading.Read es) list = listed es list

-- ---- the reply

-- the refusal, 0 where the file is read; and how many records it has, 0 where it is refused
unfoldable pub found_numbers : Result ℕ ℕ → List ℕ
found_numbers (Err n) = n ∷ 0 ∷ []
found_numbers (Ok n) = 0 ∷ n ∷ []

-- ---- on the way

-- where a file has its record i, counted from 0: 25 stand in each block, from its byte 8 on
abbrev pub place_of : ℕ → ℕ
place_of i = 512 * (i / 25) + 8 + 20 * (i % 25)

unfoldable pub record_at : List ℕ → ℕ → List ℕ
record_at file i = take 20 (drop (place_of i) file)

-- how many records are written where there is room for so many
unfoldable pub fitting_records : Result ℕ ℕ → ℕ → ℕ
fitting_records (Err n) room = 0
fitting_records (Ok n) room = min n room
