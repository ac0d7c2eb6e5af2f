-- Blocks that are looked at one after the other: how far they have passed.
use Rattle.std.specs.Prelude.{ℕ, ◌*◌, ◌≤◌, ◌≡◌, List, length}
use Rattle.day_files.specs.Files.{events_of}
use Rattle.fronts.specs.declared.Looked.{Looked}
use Rattle.fronts.specs.Good.{good_from, refusal_from, some_refusal}

-- what a look at so many blocks from a place on tells: how many are good, their records, and the first refusal
pub record Looks (whole blocks place : ℕ) (file : List ℕ) (r : Looked) : Type 0 where
  pub good : r.good ≡ good_from whole blocks place file
  pub records : r.records ≡ length (events_of r.good file)
  pub few : r.records ≤ 25 * r.good
  pub refusal : r.refusal ≡ some_refusal (refusal_from whole blocks place file)
