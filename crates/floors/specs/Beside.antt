-- The words for what ./floor has in common with ./run: lines that begin with none of its own letters, and lines that are no question.
use Rattle.std.specs.Prelude.{ℕ, Bool, true, false, not, ◌||◌, List, [], ◌∷◌, ◌++◌, eqb}
use Prim.Native.Char.{code}
use Rattle.model.specs.Lines.{Line}
use Rattle.floors.specs.declared.Wish.{Wish}
use Rattle.floors.specs.declared.Wish.TheVariants.{Says, Wants}
use Rattle.floors.specs.Wishes.{line_wish}
use Rattle.floors.specs.Floor.{Floor, wish_answer}

unfoldable pub is_own_letter : ℕ → Bool
is_own_letter c = eqb c (code "R") || eqb c (code "L") || eqb c (code "Q") || eqb c (code "J") || eqb c (code "S")

-- the line does not begin with a letter of ./floor's own
unfoldable pub is_plain : Line → Bool
is_plain l = elim l.text [ [] ↦ true | c ∷ cs ↦ not (is_own_letter c) ]

unfoldable pub is_question : Wish → Bool
is_question (Says c) = false
is_question (Wants q) = true

unfoldable pub text_unless : Bool → List ℕ → List ℕ
text_unless true t = []
text_unless false t = t

-- the replies to the lines that are no question, in a session that has questions too
unfoldable pub other_replies : List Line → Floor → List ℕ
other_replies [] f = []
other_replies (l ∷ ls) f =
    text_unless (is_question (line_wish l)) (wish_answer (line_wish l) f).text ++ other_replies ls (wish_answer (line_wish l) f).floor
