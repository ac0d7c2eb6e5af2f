-- What is promised of day files holds. Assumes nothing.
use mathlib.Core.Path.{◌≡◌}
use mathlib.Core.Bool.{true, false}
use mathlib.Core.List.{List}
use Rattle.model.specs.Lists.{any}
use Rattle.model.specs.Refusals.{◌when◌, first_of}
use Rattle.model.specs.declared.Event.{Event}
use Rattle.file_records.specs.Records.{is_wide}
use Rattle.day_files.specs.Files.{Written, file_bytes, write_rules, write_file}
use Rattle.day_files.specs.Promises.{DayFiles}
use Rattle.day_files.proofs.Changed.{file_noticed}
use Rattle.day_files.proofs.Filed.{read_back}
use Rattle.day_files.proofs.Unique.{one_file}
use Rattle.day_files.proofs.Bytes.{of_bytes}

wide_refused : (es : List Event) → any is_wide es ≡ true → write_file es ≡ Written.Refused 27
unfolding write_file write_rules first_of ◌when◌
wide_refused es e = rw e

narrow_written : (es : List Event) → any is_wide es ≡ false → write_file es ≡ Written.File (file_bytes es)
unfolding write_file write_rules first_of ◌when◌
narrow_written es e = rw e

pub day_files : DayFiles
day_files =
    record {
      refused = wide_refused;
      written = narrow_written;
      of_bytes = of_bytes;
      read_back = read_back;
      one_file = one_file;
      noticed = file_noticed;
    }
