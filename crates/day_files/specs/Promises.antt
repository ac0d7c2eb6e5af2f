-- What is promised of day files, as statements: each can be read without its proof.
use Rattle.std.specs.Prelude.{ℕ, ◌*◌, ◌≤◌, ◌≡◌, true, false, List, length, set}
use Rattle.model.specs.Lists.{all, any}
use Rattle.model.specs.declared.Event.{Event}
use Rattle.octets.specs.Numbers.{AllBytes}
use Rattle.file_records.specs.Records.{is_wide, is_event}
use Rattle.file_blocks.specs.Changed.{Another}
use Rattle.day_files.specs.Files.{Written, Reading, file_bytes, write_file, read_file}

pub record DayFiles : Type 0 where
  -- a side or order kind above 255 is refused, and nothing else: what is written is bytes
  pub refused : (es : List Event) → any is_wide es ≡ true → write_file es ≡ Written.Refused 27
  pub written : (es : List Event) → any is_wide es ≡ false → write_file es ≡ Written.File (file_bytes es)
  pub of_bytes : (es : List Event) → any is_wide es ≡ false → AllBytes (file_bytes es)
  -- reading back gives the events written; 4,294,967,295 is the last block number of 32 bits
  pub read_back :
      (es : List Event) → all is_event es ≡ true → length es ≤ 25 * 4_294_967_295 → read_file (file_bytes es) ≡ Reading.Read es
  -- and a file that is read is the one that its events are written to
  pub one_file : (file : List ℕ) (es : List Event) → AllBytes file → read_file file ≡ Reading.Read es → file ≡ file_bytes es
  -- one changed byte is always noticed, in any file that is read
  pub noticed :
      (file : List ℕ) (es : List Event) (i v : ℕ)
      → read_file file ≡ Reading.Read es
      → Another file i v
      → read_file (set file i v) ≡ Reading.Refused 24
