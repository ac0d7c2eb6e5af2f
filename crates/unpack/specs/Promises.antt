-- What is promised of a day file unpacked, and what the functions promise of some blocks.
use Rattle.std.specs.Prelude.{ℕ, suc, ◌*◌, ◌≤◌, ◌≡◌, true, List, [], length}
use Rattle.model.specs.declared.Event.{Event}
use Rattle.model.specs.Lists.{all}
use Rattle.printing.specs.Printing.{Wrote}
use Rattle.file_records.specs.Records.{is_event}
use Rattle.day_files.specs.Files.{Reading, file_bytes, read_file, events_of}
use Rattle.file_scripts.specs.Scripts.{script_of}
use Rattle.fronts.specs.Good.{good_from, refusal_from, some_refusal, good_blocks, Front}
use Rattle.unpack.specs.declared.Unpacking.{Unpacking}
use Rattle.unpack.specs.Unpacking.{refused_line, unpacked}

pub record Unpacks : Type 0 where
  -- a file that is read gives the script of its events, and nothing is told
  pub whole :
      (file : List ℕ) (es : List Event) → read_file file ≡ Reading.Read es → unpacked file ≡ record { script = script_of es; told = [] }
  -- so what was written comes back as its lines
  pub back :
      (es : List Event)
      → all is_event es ≡ true
      → length es ≤ 25 * 4_294_967_295
      → unpacked (file_bytes es) ≡ record { script = script_of es; told = [] }
  -- any other file tells its refusal, with the place of the first refused block
  pub refused :
      (file : List ℕ) (n : ℕ) → read_file file ≡ Reading.Refused n → (unpacked file).told ≡ refused_line n (suc (good_blocks file))

-- so many blocks from a place on: the good ones' lines are put at the front of an output
pub record Puts (whole blocks place : ℕ) (file out : List ℕ) (r : Unpacking) (out' : List ℕ) : Type 0 where
  pub good : r.good ≡ good_from whole blocks place file
  pub refusal : r.refusal ≡ some_refusal (refusal_from whole blocks place file)
  pub text : Wrote out 0 (script_of (events_of r.good file)) out' r.next
  pub room : r.next ≤ 3_200 * blocks

-- what a front gives: its good blocks, their lines, and its refusal
pub record Gives (f : Front) (file out : List ℕ) (r : Unpacking) (out' : List ℕ) : Type 0 where
  pub good : r.good ≡ f.good
  pub refusal : r.refusal ≡ some_refusal f.refusal
  pub text : Wrote out 0 (script_of (events_of f.good file)) out' r.next
  pub room : r.next ≤ length out
