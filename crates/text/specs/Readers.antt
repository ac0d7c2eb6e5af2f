-- Lines as any program reads them: what they ask for there, and what a line asks for that is not of the form.
use Rattle.std.specs.Prelude.{ℕ, ◌<◌, Bool, true, false, ◌≡◌, List, [], ◌∷◌, map, length, if◌then◌else◌}
use Rattle.model.specs.declared.Command.{Command}
use Rattle.model.specs.declared.Command.TheVariants.{Malformed}
use Rattle.model.specs.Lines.{Line, lines_of, line_command}

pub record Reader (A : Type 0) : Type 0 where
  pub asks : Line → A
  pub malformed : A

-- a line that is not ended, or longer than 80 bytes with its newline, is not of the form
pub record Strict {A : Type 0} (r : Reader A) : Type 0 where
  pub unended : (t : List ℕ) → r.asks (record { text = t; ended = false }) ≡ r.malformed
  pub long : (t : List ℕ) (b : Bool) → 79 < length t → r.asks (record { text = t; ended = b }) ≡ r.malformed

-- the reader of ./run
abbrev pub commands : Reader Command
commands = record { asks = line_command; malformed = Malformed }

abbrev pub after_first : List Line → List Line
after_first [] = []
after_first (l ∷ ls) = ls

module _ {A : Type 0} (r : Reader A) where
  -- what a line asks for whose first part may have been too long already
  abbrev pub asks_after : Bool → Line → A
  asks_after long l = if long then r.malformed else r.asks l

  -- what the lines ask for that end in a chunk
  unfoldable pub asks_of : Bool → List Line → List A
  asks_of long [] = []
  asks_of long (l ∷ ls) = if l.ended then asks_after long l ∷ asks_of false ls else []

  -- what the rest of an input asks for, of whose first line a part that was too long may be gone
  unfoldable pub rest_asks : Bool → List ℕ → List A
  rest_asks false input = map r.asks (lines_of input)
  rest_asks true input = r.malformed ∷ map r.asks (after_first (lines_of input))
