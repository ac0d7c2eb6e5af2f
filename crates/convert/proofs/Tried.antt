-- Bytes of old scripts and what becomes of them, from the definitions. One statement: what is converted is what stands in the
-- table. Assumes nothing.
use Prim.Native.String.{String}
use mathlib.Core.Path.{◌≡◌, refl}
use mathlib.Core.List.{List, [], ◌∷◌, map, flatten}
use Rattle.model.specs.Lists.{all}
use Rattle.model.specs.Lines.{onto, lines_of, onto_word, words_of, is_digit, value_from, bare, number_of, numbers_of}
use Rattle.model.proofs.Examples.{bytes}
use Rattle.convert.specs.Converting.{are_five, five_words, taken_as_five, converted_line, converted}

pub record Row : Type 0 where
  pub old : String
  pub new : String

infix 75 ◌becomes◌
abbrev ◌becomes◌ : String → String → Row
o becomes n = record { old = o; new = n }

abbrev stays : String → Row
stays s = s becomes s

abbrev rows : List Row
rows =
    "O 0 0 7 100 1000\n" becomes "O 0 0 7 100 1000 0\n"
    ∷ "O 1 0 7 50 1000\n" becomes "O 1 0 7 50 1000 0\n"
    ∷ "O 4294967295 4294967295 4294967295 4294967295 4294967295\n" becomes "O 4294967295 4294967295 4294967295 4294967295 4294967295 0\n"
    ∷ "D 1000 1\nO 0 0 7 100 1000\nT 33300\nO 1 0 7 50 1000\n" becomes "D 1000 1\nO 0 0 7 100 1000 0\nT 33300\nO 1 0 7 50 1000 0\n"
    ∷ "O 0 0 7 100 1000\nO 0 0 7 100 1000" becomes "O 0 0 7 100 1000 0\nO 0 0 7 100 1000"
    ∷ stays ""
    ∷ stays "\n\n"
    ∷ stays "O 0 0 7 100 1000"
    ∷ stays "O 1 0 7 50 1000 50\n"
    ∷ stays "O 0 0 7 100 1000 0 0\n"
    ∷ stays "O 0 0 7 100\n"
    ∷ stays "O 0 0 7 100 4294967296\n"
    ∷ stays "O 0 0 7 100 01000\n"
    ∷ stays "O 0 0 7 100 -1\n"
    ∷ stays "O 0 0 7 100 1000\r\n"
    ∷ stays "O 0 0 7 100 1000 \n"
    ∷ stays "O  0 0 7 100 1000\n"
    ∷ stays " O 0 0 7 100 1000\n"
    ∷ stays "OO 0 0 7 100 1000\n"
    ∷ stays "o 0 0 7 100 1000\n"
    ∷ stays "C 0 0 7 100 1000\n"
    ∷ stays "O 00000000000000000000000000000000000000000000000000000000000000000000 0 7 100 1000\n"
    ∷ []

pub converted_tried : map (λ r. converted (bytes r.old)) rows ≡ map (λ r. bytes r.new) rows
unfolding bytes onto lines_of onto_word words_of all is_digit value_from bare number_of numbers_of are_five five_words taken_as_five converted_line converted flatten
converted_tried = refl
