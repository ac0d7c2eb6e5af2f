-- The blocks of a file before the first refused one, and that one's refusal; of a whole file, and from the middle of it on.
use Rattle.std.specs.Prelude.{ℕ, zero, suc, ◌+◌, ◌-◌, ◌/◌, Option, None, Some, List, length, take, drop, eqb, if◌then◌else◌}
use Rattle.model.specs.Refusals.{first_of}
use Rattle.file_blocks.specs.Blocks.{block_rules}
use Rattle.day_files.specs.Files.{whole_blocks, rules_from}

-- of so many blocks from a place on, how many stand before the first refused one
unfoldable pub good_from : ℕ → ℕ → ℕ → List ℕ → ℕ
good_from whole zero place rest = 0
good_from whole (suc blocks) place rest =
    if eqb (first_of (block_rules whole place (take 512 rest))) 0
    then suc (good_from whole blocks (suc place) (drop 512 rest))
    else 0

-- and what that one is refused with, 0 where none is
unfoldable pub refusal_from : ℕ → ℕ → ℕ → List ℕ → ℕ
refusal_from whole zero place rest = 0
refusal_from whole (suc blocks) place rest =
    let n : ℕ = first_of (block_rules whole place (take 512 rest)) in
    if eqb n 0 then refusal_from whole blocks (suc place) (drop 512 rest) else n

-- the refusal that a number tells: 0 is none
abbrev pub some_refusal : ℕ → Option ℕ
some_refusal n = if eqb n 0 then None else Some n

unfoldable pub good_blocks : List ℕ → ℕ
good_blocks file = good_from (whole_blocks file) (whole_blocks file) 1 file

-- how many blocks are good, and the refusal of what stands behind them
pub record Front : Type 0 where
  pub good : ℕ
  pub refusal : ℕ

-- the rest of a file behind the blocks that have passed, with its tail
unfoldable pub front_from : ℕ → List ℕ → Front
front_from passed rest =
    let n : ℕ = length rest / 512 in
    record {
      good = good_from (passed + n) n (suc passed) rest;
      refusal = first_of (rules_from (passed + n) n (suc passed) rest);
    }

-- ---- of what has been read so far only the blocks that a whole block follows can be judged, since the last may be short

unfoldable pub followed : List ℕ → ℕ
followed rest = length rest / 512 - 1

-- none of them is the last: no place is 0
unfoldable pub look_from : ℕ → List ℕ → Front
look_from passed rest =
    record {
      good = good_from 0 (followed rest) (suc passed) rest;
      refusal = refusal_from 0 (followed rest) (suc passed) rest;
    }
