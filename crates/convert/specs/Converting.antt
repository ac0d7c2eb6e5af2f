-- An input converted: balance 0 is added to each line that the older form takes as an order of five numbers, and every other
-- byte is copied.
use Rattle.std.specs.Prelude.{ℕ, Bool, false, ◌&&◌, length, leb, eqb, if◌then◌else◌}
use Prim.Native.Char.{code}
use mathlib.Core.List.{List, [], ◌∷◌, ◌++◌, map, flatten}
use Rattle.std.proofs.Math.Option.{Option, none, some}
use Rattle.model.specs.Lines.{Line, lines_of, words_of, numbers_of}

unfoldable pub are_five : Option (List ℕ) → Bool
are_five none = false
are_five (some ns) = eqb (length ns) 5

-- an `O` and five numbers
unfoldable pub five_words : List (List ℕ) → Bool
five_words [] = false
five_words ([] ∷ ws) = false
five_words ((c ∷ []) ∷ ws) = eqb c (code "O") && are_five (numbers_of ws)
five_words ((c ∷ d ∷ w) ∷ ws) = false

-- ended, and at most 80 bytes with the newline
unfoldable pub taken_as_five : Line → Bool
taken_as_five l = l.ended && leb (length l.text) 79 && five_words (words_of l.text)

-- a line's bytes, ` 0` after an order of five numbers, and its newline where it had one
unfoldable pub converted_line : Line → List ℕ
converted_line l =
    l.text
    ++ (if taken_as_five l then code " " ∷ code "0" ∷ [] else [])
    ++ (if l.ended then code "\n" ∷ [] else [])

unfoldable pub converted : List ℕ → List ℕ
converted input = flatten (map converted_line (lines_of input))
