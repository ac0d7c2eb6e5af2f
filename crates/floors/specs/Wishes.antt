-- What a line of ./floor asks for: one of its own letters with as many numbers as that wants is a question, any other line is what
-- ./run reads in it.
use Rattle.std.specs.Prelude.{ℕ, ◌&&◌, List, [], ◌∷◌, length, leb, eqb, if◌then◌else◌}
use Prim.Native.Char.{code}
use Rattle.std.proofs.Math.Option.{Option, none, some}
use Rattle.model.specs.declared.Command.{Command}
use Rattle.model.specs.Lines.{Line, words_of, numbers_of, line_command}
use Rattle.floors.specs.declared.Question.{Question}
use Rattle.floors.specs.declared.Question.TheVariants.{Report, Prices, Claims, Judge, Screen}
use Rattle.floors.specs.declared.Wish.{Wish}
use Rattle.floors.specs.declared.Wish.TheVariants.{Says, Wants}

-- a letter, with as many numbers as it wants
unfoldable pub question_of : ℕ → List ℕ → Option Question
question_of c [] = if eqb c (code "R") then some Report else if eqb c (code "S") then some Screen else none
question_of c (price ∷ []) = if eqb c (code "J") then some (Judge price) else none
question_of c (price ∷ count ∷ []) = if eqb c (code "L") then some (Prices price count) else none
question_of c (shares ∷ buyer ∷ seller ∷ []) =
    if eqb c (code "Q") then some (Claims (record { shares = shares; buyer = buyer; seller = seller })) else none
question_of c (x ∷ y ∷ z ∷ u ∷ ns) = none

-- every word after the letter has to be a number
unfoldable pub question_with : ℕ → Option (List ℕ) → Option Question
question_with c none = none
question_with c (some ns) = question_of c ns

unfoldable pub words_question : List (List ℕ) → Option Question
words_question [] = none
words_question ([] ∷ ws) = none
words_question ((c ∷ []) ∷ ws) = question_with c (numbers_of ws)
words_question ((c ∷ d ∷ w) ∷ ws) = none

-- at most 80 bytes with the newline
unfoldable pub line_question : Line → Option Question
line_question l = if l.ended && leb (length l.text) 79 then words_question (words_of l.text) else none

-- a question, where there is one
unfoldable pub wish_of : Option Question → Command → Wish
wish_of none c = Says c
wish_of (some q) c = Wants q

unfoldable pub line_wish : Line → Wish
line_wish l = wish_of (line_question l) (line_command l)
