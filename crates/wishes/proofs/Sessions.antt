-- Answering chunk by chunk gives ./floor's session, however the input is cut into chunks. Assumes nothing.
use Prim.Native.Nat.{ℕ}
use mathlib.Core.Path.{◌≡◌, refl, sym, ap, ◌∙◌}
use mathlib.Core.Bool.{false}
use mathlib.Core.List.{List, [], ◌∷◌, ◌++◌, map, flatten}
use Rattle.model.specs.Lines.{Line, lines_of}
use Rattle.text.specs.Readers.{rest_asks}
use Rattle.text.specs.Answers.{replies_to, chunkwise}
use Rattle.text.proofs.Sessions.{by_chunks}
use Rattle.floors.specs.Wishes.{line_wish}
use Rattle.floors.specs.Floor.{Floor, wish_answer, floor_answers, no_floor, floor_session}
use Rattle.wishes.specs.Wishes.{wishes, floor}
use Rattle.wishes.proofs.Asking.{wishes_strict}

answers_are : (ls : List Line) (f : Floor) → floor_answers ls f ≡ replies_to floor (map line_wish ls) f
unfolding floor_answers replies_to
answers_are [] f = refl
answers_are (l ∷ ls) f =
    ap (λ (t : List ℕ). (wish_answer (line_wish l) f).text ++ t) (answers_are ls (wish_answer (line_wish l) f).floor)

session_is : (input : List ℕ) → floor_session input ≡ replies_to floor (rest_asks wishes false input) no_floor
unfolding floor_session rest_asks
session_is input = answers_are (lines_of input) no_floor

pub chunk_by_chunk :
    (bs : List (List ℕ)) → chunkwise floor (record { kept = 0; long = false }) [] no_floor bs ≡ floor_session (flatten bs)
chunk_by_chunk bs = by_chunks floor wishes_strict bs no_floor ∙ sym (session_is (flatten bs))
