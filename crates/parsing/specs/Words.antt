-- A line by its form: a letter, and up to six numbers; and how the code has what it reads.
use Rattle.std.specs.Prelude.{ℕ, ◌&&◌, List, [], ◌∷◌, leb, length, take, if◌then◌else◌}
use Rattle.std.specs.Prelude.{Option as Read, None, Some}
use Rattle.std.proofs.Math.Option.{Option, none, some}
use Rattle.model.specs.declared.Command.{Command}
use Rattle.model.specs.declared.Command.TheVariants.{Malformed}
use Rattle.model.specs.Lines.{Line, words_of, numbers_of, command_of}
use Rattle.parsing.specs.declared.line_forms.Form.{Form}

unfoldable pub command_with : ℕ → Option (List ℕ) → Command
command_with c none = Malformed
command_with c (some ns) = command_of c ns

-- a letter, and the numbers after it
pub record Phrase : Type 0 where
  pub letter : ℕ
  pub numbers : List ℕ

-- no line wants a seventh number
abbrev pub up_to_six : Option (List ℕ) → Option (List ℕ)
up_to_six none = none
up_to_six (some ns) = if leb (length ns) 6 then some ns else none

unfoldable pub phrase_with : ℕ → Option (List ℕ) → Option Phrase
phrase_with c none = none
phrase_with c (some ns) = if leb (length ns) 6 then some (record { letter = c; numbers = ns }) else none

unfoldable pub words_phrase : List (List ℕ) → Option Phrase
words_phrase [] = none
words_phrase ([] ∷ ws) = none
words_phrase ((c ∷ []) ∷ ws) = phrase_with c (numbers_of ws)
words_phrase ((c ∷ d ∷ w) ∷ ws) = none

-- a line by its form, whatever it asks for: at most 80 bytes with the newline
unfoldable pub line_phrase : Line → Option Phrase
line_phrase l = if l.ended && leb (length l.text) 79 then words_phrase (words_of l.text) else none

-- ---- as the code has them

abbrev pub found : {A : Type 0} → Option A → Read A
found none = None
found (some x) = Some x

abbrev pub phrase_in : Read Form → Option Phrase
phrase_in None = none
phrase_in (Some f) = some (record { letter = f.letter; numbers = take f.count f.values })
