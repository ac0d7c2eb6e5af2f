-- A script packed: the day file of what is stored, and what is told. And a file that grows event by event: the blocks that are
-- full, and the events that wait for theirs to fill.
use Rattle.std.specs.Prelude.{ℕ, suc, ◌*◌, ◌/◌, ◌%◌, List, [], ◌∷◌, ◌++◌, length, drop, eqb, if◌then◌else◌}
use Prim.Native.Char.{code}
use Rattle.model.specs.declared.Event.{Event}
use Rattle.model.specs.Lines.{reply}
use Rattle.file_blocks.specs.Blocks.{block_bytes}
use Rattle.day_files.specs.Files.{blocks_from, file_bytes}
use Rattle.file_scripts.specs.Scripts.{commands_of, stored_of, told_from}

pub record Packed : Type 0 where
  pub file : List ℕ
  pub told : List ℕ

-- each line that is not stored is told, and at the end how many records there are: `K records`
unfoldable pub packed : List ℕ → Packed
packed script =
    record {
      file = file_bytes (stored_of (commands_of script));
      told = told_from 1 (commands_of script) ++ reply (code "K") (length (stored_of (commands_of script)) ∷ []);
    }

-- ---- event by event

-- the events that wait, fewer than 25
unfoldable pub waiting : List Event → List Event
waiting es = drop (25 * (length es / 25)) es

-- the blocks that more events fill
unfoldable pub new_blocks : List Event → List Event → List ℕ
new_blocks es more = blocks_from (length (waiting es ++ more) / 25) (suc (length es / 25)) (waiting es ++ more)

-- at the end, those that wait have a block of their own
unfoldable pub last_block : List Event → List ℕ
last_block es = if eqb (length es % 25) 0 then [] else block_bytes (suc (length es / 25)) (waiting es)
