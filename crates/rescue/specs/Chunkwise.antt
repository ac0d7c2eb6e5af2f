-- A rescue as the program does it: bytes copied, lines told, and chunk by chunk.
use Rattle.std.specs.Prelude.{ℕ, zero, suc, ◌+◌, ◌*◌, ◌/◌, false, ◌&&◌, List, [], ◌∷◌, ◌++◌, length, take, drop, ltb, eqb, if◌then◌else◌}
use Prim.Native.Char.{code}
use Rattle.model.specs.Lines.{reply}
use Rattle.octets.specs.Numbers.{flat}
use Rattle.file_blocks.specs.Blocks.{number_in, right_check, own_layout}
use Rattle.day_files.specs.Files.{events_of}
use Rattle.fronts.specs.Good.{good_from, look_from}
use Rattle.rescue.specs.Rescue.{Listed, list_from, Rescued}

pub record Output : Type 0 where
  pub file : List ℕ
  pub told : List ℕ

-- a line for each block of the list, `B place sound number`, and then `K records`
unfoldable pub list_line : Listed → List ℕ
list_line l = reply (code "B") (l.place ∷ (if l.sound then 1 else 0) ∷ l.number ∷ [])

unfoldable pub output : Rescued → Output
output r = record { file = r.file; told = flat list_line r.list ++ reply (code "K") (r.kept ∷ []) }

-- ---- from the middle of a file on, behind so many blocks

-- the first refused block is found: the rest is listed
unfoldable pub listed : ℕ → ℕ → List ℕ → Output
listed behind records rest =
    record {
      file = [];
      told = flat list_line (list_from (length rest / 512) (suc behind) rest) ++ reply (code "K") (records ∷ []);
    }

-- none was refused so far: the good blocks are copied, and what stands behind them is listed
unfoldable pub rescued_from : ℕ → ℕ → List ℕ → Output
rescued_from behind records rest =
    let n : ℕ = length rest / 512 in
    let good : ℕ = good_from (behind + n) n (suc behind) rest in
    record {
      file = take (512 * good) rest;
      told = (listed (behind + good) (records + length (events_of good rest)) (drop (512 * good) rest)).told;
    }

-- ---- chunk by chunk

-- so many blocks, without what stands behind them
unfoldable pub blocks_listed : ℕ → ℕ → List ℕ → List Listed
blocks_listed zero place rest = []
blocks_listed (suc blocks) place rest =
    record {
      place = place;
      sound = right_check (take 512 rest) && own_layout (take 512 rest);
      number = number_in (take 512 rest);
    }
    ∷ blocks_listed blocks (suc place) (drop 512 rest)

-- a tail of so many bytes
unfoldable pub tail_listed : ℕ → ℕ → List Listed
tail_listed bytes place = if ltb 0 bytes then record { place = place; sound = false; number = 0 } ∷ [] else []

unfoldable pub listed_chunks : ℕ → ℕ → List ℕ → List (List ℕ) → Output
listed_chunks behind records kept [] = listed behind records kept
listed_chunks behind records kept (b ∷ bs) =
    let read : List ℕ = kept ++ b in
    let n : ℕ = length read / 512 in
    let more : Output = listed_chunks (behind + n) records (drop (512 * n) read) bs in
    record { file = more.file; told = flat list_line (blocks_listed n (suc behind) read) ++ more.told }

-- what was kept is read again as the first of the chunks once a block is refused
unfoldable pub rescued_chunks : ℕ → ℕ → List ℕ → List (List ℕ) → Output
rescued_chunks behind records kept [] = rescued_from behind records kept
rescued_chunks behind records kept (b ∷ bs) =
    let read : List ℕ = kept ++ b in
    let good : ℕ = (look_from behind read).good in
    let now : ℕ = records + length (events_of good read) in
    let more : Output =
    if eqb (look_from behind read).refusal 0
    then rescued_chunks (behind + good) now (drop (512 * good) read) bs
    else listed_chunks (behind + good) now [] (drop (512 * good) read ∷ bs) in
    record { file = take (512 * good) read ++ more.file; told = more.told }
