-- A script packed chunk by chunk.
use Rattle.std.specs.Prelude.{ℕ, ◌+◌, false, List, [], ◌∷◌, ◌++◌, length, if◌then◌else◌}
use Prim.Native.Char.{code}
use Rattle.model.specs.declared.Event.{Event}
use Rattle.model.specs.declared.Command.{Command}
use Rattle.model.specs.declared.Command.TheVariants.{Malformed}
use Rattle.model.specs.Lines.{lines_of, reply}
use Rattle.text.specs.declared.Carry.{Carry}
use Rattle.text.specs.Readers.{asks_of, commands}
use Rattle.text.specs.Chunks.{is_left}
use Rattle.text.specs.Answers.{carry_after, kept_after}
use Rattle.file_scripts.specs.Scripts.{stored_of, told_from}
use Rattle.pack.specs.Packing.{Packed, new_blocks, last_block}

-- what goes from chunk to chunk: the carry, the bytes that it keeps, the number of the next line, and the events stored so far,
-- of which only their count and those that wait are kept in memory
pub record Between : Type 0 where
  pub carry : Carry
  pub kept : List ℕ
  pub line : ℕ
  pub events : List Event

unfoldable pub outset : Between
outset = record { carry = record { kept = 0; long = false }; kept = []; line = 1; events = [] }

-- what a chunk asks for, which is read after what was kept
abbrev pub asks : Between → List ℕ → List Command
asks s b = asks_of commands s.carry.long (lines_of (s.kept ++ b))

unfoldable pub after_chunk : Between → List ℕ → Between
after_chunk s b =
    record {
      carry = carry_after s.carry.long (s.kept ++ b);
      kept = kept_after s.carry.long (s.kept ++ b);
      line = s.line + length (asks s b);
      events = s.events ++ stored_of (asks s b);
    }

-- the end: an unended line is malformed, and those that wait are written
abbrev pub left_asks : Carry → List Command
left_asks c = if is_left c then Malformed ∷ [] else []

unfoldable pub ending : Between → Packed
ending s =
    record {
      file = last_block s.events;
      told = told_from s.line (left_asks s.carry) ++ reply (code "K") (length s.events ∷ []);
    }

unfoldable pub packed_chunks : Between → List (List ℕ) → Packed
packed_chunks s [] = ending s
packed_chunks s (b ∷ bs) =
    record {
      file = new_blocks s.events (stored_of (asks s b)) ++ (packed_chunks (after_chunk s b) bs).file;
      told = told_from s.line (asks s b) ++ (packed_chunks (after_chunk s b) bs).told;
    }
