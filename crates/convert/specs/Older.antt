-- The line as it was while an order could leave out its balance: what it asked for, and the session of an old script. Kept
-- for the converter alone; all that is not the order line is the definitions' own.
use Rattle.std.specs.Prelude.{ℕ, ◌&&◌, List, [], ◌∷◌, ◌++◌, length, leb, eqb, if◌then◌else◌}
use Prim.Native.Char.{code}
use Rattle.std.proofs.Math.Option.{Option, none, some}
use Rattle.model.specs.declared.Command.{Command}
use Rattle.model.specs.declared.Command.TheVariants.{Malformed, Asks}
use Rattle.model.specs.declared.Event.TheVariants.{Order}
use Rattle.model.specs.Lines.{Line, lines_of, words_of, numbers_of, command_of}
use Rattle.model.specs.Session.{Desk, answer}

-- an order's numbers: five, and its balance is 0 then, or six
unfoldable pub older_order : List ℕ → Command
older_order [] = Malformed
older_order (x ∷ []) = Malformed
older_order (x ∷ y ∷ []) = Malformed
older_order (x ∷ y ∷ z ∷ []) = Malformed
older_order (x ∷ y ∷ z ∷ u ∷ []) = Malformed
older_order (side ∷ kind ∷ account ∷ quantity ∷ price ∷ []) =
    Asks
    (Order
    (record { side = side; kind = kind; account = account; quantity = quantity; price = price; balance = 0 }))
older_order (side ∷ kind ∷ account ∷ quantity ∷ price ∷ balance ∷ []) =
    Asks
    (Order
    (record { side = side; kind = kind; account = account; quantity = quantity; price = price; balance = balance }))
older_order (x ∷ y ∷ z ∷ u ∷ v ∷ w ∷ t ∷ ns) = Malformed

-- every other letter wants what it wants now
unfoldable pub older_of : ℕ → List ℕ → Command
older_of c ns = if eqb c (code "O") then older_order ns else command_of c ns

unfoldable pub older_words : List (List ℕ) → Command
older_words [] = Malformed
older_words ([] ∷ ws) = Malformed
older_words ((c ∷ []) ∷ ws) = elim (numbers_of ws) [ none ↦ Malformed | some ns ↦ older_of c ns ]
older_words ((c ∷ d ∷ w) ∷ ws) = Malformed

-- at most 80 bytes with the newline
unfoldable pub older_command : Line → Command
older_command l = if l.ended && leb (length l.text) 79 then older_words (words_of l.text) else Malformed

unfoldable pub older_answers : List Line → Option Desk → List ℕ
older_answers [] desk = []
older_answers (l ∷ ls) desk =
    (answer (older_command l) desk).text ++ older_answers ls (answer (older_command l) desk).desk

-- the whole session, as it was
unfoldable pub older_session : List ℕ → List ℕ
older_session input = older_answers (lines_of input) none
