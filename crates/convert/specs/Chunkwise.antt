-- A conversion that goes on in the middle of a line, and chunk by chunk.
use Rattle.std.specs.Prelude.{ℕ, true, List, [], ◌∷◌, ◌++◌, take, eqb, if◌then◌else◌}
use Prim.Native.Char.{code}
use Rattle.convert.specs.Converting.{taken_as_five}

-- what is added at the newline of a line
unfoldable pub added : List ℕ → List ℕ
added line = if taken_as_five (record { text = line; ended = true }) then code " " ∷ code "0" ∷ [] else []

-- the bytes that are written for some bytes of the input, after those of a line that has not ended
unfoldable pub converted_from : List ℕ → List ℕ → List ℕ
converted_from line [] = []
converted_from line (b ∷ bs) =
    if eqb b (code "\n")
    then added line ++ b ∷ converted_from [] bs
    else b ∷ converted_from (line ++ (b ∷ [])) bs

-- the line that has not ended then
unfoldable pub line_after : List ℕ → List ℕ → List ℕ
line_after line [] = line
line_after line (b ∷ bs) = if eqb b (code "\n") then line_after [] bs else line_after (line ++ (b ∷ [])) bs

-- 80 bytes of a line are enough to know that it is no order
abbrev pub remembered : List ℕ → List ℕ
remembered line = take 80 line

-- each chunk after what is remembered of the line that the chunks before it left
unfoldable pub converted_chunks : List ℕ → List (List ℕ) → List ℕ
converted_chunks line [] = []
converted_chunks line (b ∷ bs) = converted_from line b ++ converted_chunks (remembered (line_after line b)) bs
