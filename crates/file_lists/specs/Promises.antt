-- What is promised of the records of a day file as a list, as statements: each can be read without its proof.
use Rattle.std.specs.Prelude.{ℕ, ◌*◌, ◌≤◌, ◌<◌, ◌≡◌, ◌⊎◌, List, ◌++◌, length, get_or, take, drop}
use Rattle.model.specs.declared.Event.{Event}
use Rattle.octets.specs.Numbers.{AllBytes, parts, flat}
use Rattle.file_records.specs.Records.{record_bytes, event_in}
use Rattle.day_files.specs.Files.{Reading, read_file}
use Rattle.file_lists.specs.Lists.{listed_from, record_at}

pub record FileLists : Type 0 where
  -- a refused file leaves the list as it was, and its refusal is 24, 25 or 26
  pub refused : (file list : List ℕ) (n : ℕ) → read_file file ≡ Reading.Refused n → listed_from (read_file file) list ≡ list
  pub refusals : (file : List ℕ) (n : ℕ) → read_file file ≡ Reading.Refused n → (n ≡ 24) ⊎ (n ≡ 25) ⊎ (n ≡ 26)
  -- with 20 bytes for each record all of them are written
  pub whole :
      (file list : List ℕ) (es : List Event)
      → read_file file ≡ Reading.Read es
      → 20 * length es ≤ length list
      → listed_from (read_file file) list ≡ flat record_bytes es ++ drop (20 * length es) list
  -- the records that are written are the file's own bytes
  pub own_bytes :
      (file : List ℕ) (es : List Event)
      → AllBytes file
      → read_file file ≡ Reading.Read es
      → (d : Event) (i : ℕ)
      → i < length es
      → record_at file i ≡ record_bytes (get_or es i d)
  -- read off the list again, they tell the events that are read, in their order
  pub tells :
      (file list : List ℕ) (es : List Event)
      → AllBytes file
      → read_file file ≡ Reading.Read es
      → (n : ℕ)
      → n ≤ length es
      → 20 * n ≤ length list
      → parts (λ r. event_in (take 20 r)) 20 n (listed_from (read_file file) list) ≡ take n es
