-- What a line of ./floor asks for, by its form: a letter takes its own count of numbers and no other. Assumes nothing.
use Prim.Native.Nat.{ℕ, ◌<◌}
use mathlib.Core.Path.{◌≡◌, refl, sym, ap, ap₂, ◌∙◌}
use mathlib.Core.Bool.{Bool, true, false, cond, ◌&&◌}
use mathlib.Core.List.{List, [], ◌∷◌}
use mathlib.Core.Option.{Option, none, some}
use native.Mathlib.Omega.{arith}
use lib.Dec.{leb}
use lib.ListN.{length}
use borrow.Author.Tests.{leb-false}
use Rattle.model.specs.declared.Command.TheVariants.{Malformed}
use Rattle.model.specs.Lines.{Line, words_of, numbers_of}
use Rattle.parsing.specs.Words.{Phrase, phrase_with, words_phrase, line_phrase}
use Rattle.parsing.proofs.Forms.{command_by, line_asks, unended_form, long_form}
use Rattle.text.specs.Readers.{Strict}
use Rattle.floors.specs.declared.Question.{Question}
use Rattle.floors.specs.declared.Wish.TheVariants.{Says}
use Rattle.floors.specs.Wishes.{question_of, question_with, words_question, line_question, wish_of, line_wish}
use Rattle.wishes.specs.Wishes.{wishes}

-- ---- a line by its form

abbrev question_by : Option Phrase → Option Question
question_by none = none
question_by (some p) = question_of p.letter p.numbers

-- no letter wants a seventh number
many : (c : ℕ) (ns : List ℕ) → 6 < length ns → question_of c ns ≡ none
unfolding question_of
many c [] h = absurd (omega arith)
many c (x ∷ []) h = absurd (omega arith)
many c (x ∷ y ∷ []) h = absurd (omega arith)
many c (x ∷ y ∷ z ∷ []) h = absurd (omega arith)
many c (x ∷ y ∷ z ∷ u ∷ ns) h = refl

with_phrase : (c : ℕ) (o : Option (List ℕ)) → question_with c o ≡ question_by (phrase_with c o)
unfolding question_with phrase_with
with_phrase c none = refl
with_phrase c (some ns) = go (leb (length ns) 6) refl
  where
    go : (b : Bool) → leb (length ns) 6 ≡ b → question_of c ns ≡ question_by (cond b (some (record { letter = c; numbers = ns })) none)
    go true e = refl
    go false e = many c ns (leb-false (length ns) 6 e)

words_ask : (ws : List (List ℕ)) → words_question ws ≡ question_by (words_phrase ws)
unfolding words_question words_phrase
words_ask [] = refl
words_ask ([] ∷ ws) = refl
words_ask ((c ∷ []) ∷ ws) = with_phrase c (numbers_of ws)
words_ask ((c ∷ d ∷ w) ∷ ws) = refl

question_asks : (l : Line) → line_question l ≡ question_by (line_phrase l)
unfolding line_question line_phrase
question_asks l = go (l.ended && leb (length l.text) 79)
  where
    go :
        (b : Bool)
        → ◌≡◌ {A = Option Question} (cond b (words_question (words_of l.text)) none) (question_by (cond b (words_phrase (words_of l.text)) none))
    go true = words_ask (words_of l.text)
    go false = refl

line_wishes : (l : Line) → line_wish l ≡ wish_of (question_by (line_phrase l)) (command_by (line_phrase l))
unfolding line_wish
line_wishes l = ap₂ wish_of (question_asks l) (line_asks l)

-- a line of no form
unsaid_wishes : (l : Line) → line_phrase l ≡ none → line_wish l ≡ Says Malformed
unfolding wish_of
unsaid_wishes l e = line_wishes l ∙ rw e

pub wishes_by : (l : Line) (p : Option Phrase) → p ≡ line_phrase l → wish_of (question_by p) (command_by p) ≡ line_wish l
wishes_by l p e = sym (line_wishes l ∙ ap (λ q. wish_of (question_by q) (command_by q)) (sym e))

pub wishes_strict : Strict wishes
wishes_strict = record {
  unended = λ t. unsaid_wishes (record { text = t; ended = false }) (unended_form t false refl);
  long = λ t b h. unsaid_wishes (record { text = t; ended = b }) (long_form t b h);
}
