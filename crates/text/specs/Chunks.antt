-- Input that is read chunk by chunk: the next line of a chunk, what it asks for, and what is carried over to the next chunk.
-- Of a line that is too long nothing but that is kept: whatever it is, it is one malformed line.
use Rattle.std.specs.Prelude.{ℕ, ◌+◌, Bool, true, false, ◌||◌, ◌≡◌, List, [], ◌∷◌, ◌++◌, ltb, length, take, drop, if◌then◌else◌, Option, None, Some}
use Rattle.model.specs.Lines.{Line, lines_of}
use Rattle.text.specs.declared.Bounds.{Bounds}
use Rattle.text.specs.declared.NextCommand.{NextCommand}
use Rattle.text.specs.declared.Carry.{Carry}
use Rattle.text.specs.Readers.{asks_after, commands}

-- the bounds of the first of some lines, which stands at a place, if it is ended
unfoldable pub bounds_at : ℕ → ℕ → List Line → Option Bounds
bounds_at start at [] = None
bounds_at start at (l ∷ ls) = if l.ended then Some (record { start = start; end = at + length l.text }) else None

unfoldable pub next_line : List ℕ → ℕ → Option Bounds
next_line chunk at = bounds_at at at (lines_of (drop at chunk))

unfoldable pub command_at : Bool → ℕ → List Line → Option NextCommand
command_at long at [] = None
command_at long at (l ∷ ls) =
    if l.ended
    then Some (record { command = asks_after commands long l; place = at + length l.text + 1 })
    else None

unfoldable pub next_command : Bool → List ℕ → ℕ → Option NextCommand
next_command long chunk at = command_at long at (lines_of (drop at chunk))

-- an unended line is kept as long as it may still be taken
unfoldable pub carry_of : Bool → List ℕ → Carry
carry_of long tail =
    if long || ltb 79 (length tail)
    then record { kept = 0; long = true }
    else record { kept = length tail; long = false }

-- the buffer afterwards, and the carry
pub record CarriedOver (before tail : List ℕ) (long : Bool) (after : List ℕ) (c : Carry) : Type 0 where
  pub carry : c ≡ carry_of long tail
  pub bytes : after ≡ take c.kept tail ++ drop c.kept before

abbrev pub is_left : Carry → Bool
is_left c = c.long || ltb 0 c.kept

-- ---- a chunk as a whole

-- the line that does not end in it, and whether a part of that line that was too long is gone
unfoldable pub tail_of : List Line → List ℕ
tail_of [] = []
tail_of (l ∷ ls) = if l.ended then tail_of ls else l.text

unfoldable pub tail_long : Bool → List Line → Bool
tail_long long [] = long
tail_long long (l ∷ ls) = if l.ended then tail_long false ls else long
