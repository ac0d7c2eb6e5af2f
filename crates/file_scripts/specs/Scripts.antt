-- Scripts of the rehearsal program and day files: which lines are stored, and how an event is written as a line.
use Rattle.std.specs.Prelude.{ℕ, suc, List, [], ◌∷◌, ◌++◌, map, if◌then◌else◌}
use Prim.Native.Char.{code}
use Rattle.model.specs.declared.Event.{Event}
use Rattle.model.specs.declared.Event.TheVariants.{Open, Clock, Order, Cancel}
use Rattle.model.specs.declared.Command.{Command}
use Rattle.model.specs.declared.Command.TheVariants.{Malformed, Asks}
use Rattle.model.specs.Lines.{lines_of, line_command, reply}
use Rattle.octets.specs.Numbers.{flat}
use Rattle.file_records.specs.Records.{is_wide}

-- what the lines of a script ask for
abbrev pub commands_of : List ℕ → List Command
commands_of script = map line_command (lines_of script)

-- every line that is an event is stored, whether it would be refused or not. A malformed line is no event, and no record holds a
-- side or order kind above 255
unfoldable pub stored : Command → List Event
stored Malformed = []
stored (Asks e) = if is_wide e then [] else e ∷ []

unfoldable pub stored_of : List Command → List Event
stored_of [] = []
stored_of (c ∷ cs) = stored c ++ stored_of cs

-- a line that is not stored is told with its number: 16, line not of the form; 27, side or order kind above 255
unfoldable pub told : ℕ → Command → List ℕ
told line Malformed = reply (code "X") (16 ∷ line ∷ [])
told line (Asks e) = if is_wide e then reply (code "X") (27 ∷ line ∷ []) else []

unfoldable pub told_from : ℕ → List Command → List ℕ
told_from line [] = []
told_from line (c ∷ cs) = told line c ++ told_from (suc line) cs

-- ---- the way back

-- an event as a line: `D close mark`, `T time`, `O side kind account quantity price balance`, `C account number`
unfoldable pub letter_of : Event → ℕ
letter_of (Open close mark) = code "D"
letter_of (Clock time) = code "T"
letter_of (Order a) = code "O"
letter_of (Cancel account number) = code "C"

unfoldable pub numbers_in : Event → List ℕ
numbers_in (Open close mark) = close ∷ mark ∷ []
numbers_in (Clock time) = time ∷ []
numbers_in (Order a) = a.side ∷ a.kind ∷ a.account ∷ a.quantity ∷ a.price ∷ a.balance ∷ []
numbers_in (Cancel account number) = account ∷ number ∷ []

unfoldable pub event_line : Event → List ℕ
event_line e = reply (letter_of e) (numbers_in e)

-- the script of some events
unfoldable pub script_of : List Event → List ℕ
script_of es = flat event_line es
