-- A day file read, on bytes: what the call leaves in memory, and what it promises. The file is only read.
use Rattle.std.specs.Prelude.{ℕ, ◌≡◌, List}
use Rattle.records.specs.Layout.{returned, replied}
use Rattle.day_files.specs.Files.{read_file, count_file}
use Rattle.file_lists.specs.Lists.{listed_from, found_numbers}

pub record FileLeft : Type 0 where
  pub returns : ℕ
  pub records : List ℕ
  pub reply : List ℕ

abbrev pub file_left : ℕ → List ℕ → List ℕ → FileLeft
file_left r records reply = record { returns = r; records = records; reply = reply }

-- `read_file` gives the file's events or its first refusal, `count_file` how many they are or the same refusal
unfoldable pub file_leaves : List ℕ → List ℕ → List ℕ → FileLeft
file_leaves file records reply =
    record {
      returns = returned (found_numbers (count_file file));
      records = listed_from (read_file file) records;
      reply = replied (found_numbers (count_file file)) reply;
    }

abbrev pub ReadFilePromise : List ℕ → List ℕ → List ℕ → ℕ → List ℕ → List ℕ → Type 0
ReadFilePromise file records reply r records' reply' = file_left r records' reply' ≡ file_leaves file records reply
